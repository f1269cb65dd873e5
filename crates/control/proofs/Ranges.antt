-- What a valid control's fields are, from the tests, and back.
-- Assumes nothing.
use mathlib.Core.Path.{◌≡◌, refl}
use mathlib.Core.Bool.{true}
use mathlib.Core.List.{[], ◌∷◌}
use Prim.Native.Nat.{ℕ, ◌≤◌}
use native.Mathlib.Omega.{arith}
use Rattle.base.proofs.Booleans.{all_true, conj_true}
use Rattle.address.specs.Addresses.{position_limit, address_valid}
use Rattle.address.proofs.Ranges.{address_ranges}
use Rattle.clock.specs.Counters.{last_sample, last_interval, clock_valid}
use Rattle.clock.proofs.Ranges.{clock_ranges}
use Rattle.fifo.specs.Laws.{Fits}
use Rattle.fifo.proofs.Ranges.{FifoRanges, fifo_ranges}
use Rattle.rates.proofs.Rates.{loaded_valid}
use Rattle.control.specs.Types.{Mode, Idle, Rom, Waiting, External, Device, Tms5220, Tms5220C, Fifo, Port, Control}
use Rattle.control.specs.Device.{at_power_up, loaded_rate, device_valid}
use Rattle.control.specs.Validity.{speaks, least_level, most_level, most_used, fifo_valid, pending_valid, byte_valid, busy_valid, port_valid, control_valid}

-- the conditions of a valid control
pub record ControlRanges (k : Control) : Type 0 where
  pub address : address_valid k.address ≡ true
  pub fifo : fifo_valid k.mode k.fifo ≡ true
  pub port : port_valid k.mode k.port ≡ true
  pub clock : clock_valid (speaks k.mode) k.clock ≡ true
  pub device : device_valid k.device ≡ true

pub control_ranges : (k : Control) → control_valid k ≡ true → ControlRanges k
unfolding control_valid
control_ranges k h =
    let r = all_true
    (address_valid k.address ∷ fifo_valid k.mode k.fifo ∷ port_valid k.mode k.port ∷ clock_valid (speaks k.mode) k.clock
    ∷ device_valid k.device ∷ []) h in
    record { address = r.0; fifo = r.1.0; port = r.1.1.0; clock = r.1.1.1.0; device = r.1.1.1.1.0 }

pub control_in_ranges : (k : Control) → ControlRanges k → control_valid k ≡ true
unfolding control_valid
control_in_ranges k r = rw (r.address, r.fifo, r.port, r.clock, r.device)

-- the conditions of a valid port
pub record PortRanges (m : Mode) (p : Port) : Type 0 where
  pub pending : pending_valid m p ≡ true
  pub byte : byte_valid p ≡ true
  pub busy : busy_valid m p ≡ true

pub port_ranges : (m : Mode) (p : Port) → port_valid m p ≡ true → PortRanges m p
port_ranges m p h =
    let r = all_true (pending_valid m p ∷ byte_valid p ∷ busy_valid m p ∷ []) h in
    record { pending = r.0; byte = r.1.0; busy = r.1.1.0 }

pub port_in_ranges : (m : Mode) (p : Port) → PortRanges m p → port_valid m p ≡ true
port_in_ranges m p r = conj_true (pending_valid m p ∷ byte_valid p ∷ busy_valid m p ∷ []) (r.pending, (r.byte, (r.busy, tt)))

-- the address register and the clock of a valid control
pub valid_ranges : (k : Control) → control_valid k ≡ true
    → (k.address.position ≤ position_limit) × ((k.clock.sample.0 ≤ last_sample) × (k.clock.interval.0 ≤ last_interval))
valid_ranges k v = let r = control_ranges k v in ((address_ranges k.address r.address).0, clock_ranges (speaks k.mode) k.clock r.clock)

-- the FIFO's ranges in a mode
abbrev pub ModeRanges : Mode → Fifo → Type 0
ModeRanges m f = FifoRanges (least_level m) (most_level m) (most_used m) f

pub mode_ranges : (m : Mode) (f : Fifo) → fifo_valid m f ≡ true → ModeRanges m f
mode_ranges m f h = fifo_ranges (least_level m) (most_level m) (most_used m) f h

-- and what its laws ask for
pub valid_fits : (m : Mode) (f : Fifo) → fifo_valid m f ≡ true → Fits f
valid_fits Idle f h = let r = mode_ranges Idle f h in omega arith
valid_fits Rom f h = let r = mode_ranges Rom f h in omega arith
valid_fits Waiting f h = let r = mode_ranges Waiting f h in omega arith
valid_fits External f h = let r = mode_ranges External f h in omega arith

-- ---- the device

pub power_up_device : (d : Device) → device_valid (at_power_up d) ≡ true
power_up_device Tms5220 = refl
power_up_device (Tms5220C r) = refl

pub loaded_device : (d : Device) (b : ℕ) → device_valid (loaded_rate d b) ≡ true
loaded_device Tms5220 b = refl
loaded_device (Tms5220C r) b = loaded_valid b
