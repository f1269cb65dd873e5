-- The two halves of demand 3, each a theorem of its own, for a chip of either device: how it comes to be ready at an address, and what
-- it answers once it speaks from there.
use Rattle.std.specs.Prelude.{◌≡◌, true, false, List, [], ◌∷◌, ◌++◌, map, ℕ, ◌*◌, ◌<◌, length}
use Rattle.base.specs.Refusals.{TAKEN}
use Rattle.rom.specs.Bits.{image_valid}
use Rattle.rom.specs.Frames.{pitch_width}
use Rattle.rates.specs.Form.{Item}
use Rattle.rates.specs.Theorems.{ItemsThere}
use Rattle.rates.specs.declared.rate.FrameRate.{FrameRate}
use Rattle.control.specs.Commands.{command_of}
use Rattle.control.specs.Device.{rate_of, loaded_rate, device_valid}
use Rattle.control.specs.declared.device.Device.{Device}
use Rattle.control.specs.declared.state.Mode.TheVariants.{Idle}
use Rattle.control.specs.declared.commands.Command.TheVariants.{LoadFrameRate}
use Rattle.fifo.specs.declared.BitOrder.{BitOrder}
use Rattle.chip.specs.State.{power_up_of}
use Rattle.chip.specs.Validity.{valid}
use Rattle.chip.specs.Write.{write_of}
use Rattle.chip.specs.declared.state.Chip.{Chip}
use Rattle.claims.specs.Writes.{after_bytes, refusals_of}
use Rattle.claims.specs.Device.{rated_form}
use Rattle.claims.specs.Answers.{AnswersDue}
use Rattle.claims.specs.Demand3.{Loads, load_bytes, SpeakByte}

-- bytes of Load Frame Rate, any number of them
abbrev pub RateBytes : List ℕ → Type 0
RateBytes [] = Unit {0}
RateBytes (b ∷ bs) = (command_of b ≡ LoadFrameRate) × RateBytes bs

-- the device after them: the last one's rate holds on the TMS5220C, and the TMS5220 stays as it is
abbrev pub device_after : Device → List ℕ → Device
device_after d [] = d
device_after d (b ∷ bs) = device_after (loaded_rate d b) bs

-- what is written ahead of Speak: the five loads, with Load Frame Rate bytes before and after them
abbrev pub opening_bytes : List ℕ → {a : ℕ} → Loads a → List ℕ → List ℕ
opening_bytes ls l ms = ls ++ (load_bytes l ++ ms)

-- a chip from which Speak begins at byte a, with frames at the rate r: valid and idle, not busy, without pending data, its position the
-- byte's first bit
pub record Ready (r : FrameRate) (a : ℕ) (c : Chip) : Type 0 where
  pub is_valid : valid c ≡ true
  pub idle_mode : c.control.mode ≡ Idle
  pub nothing_pending : c.control.port.pending ≡ false
  pub not_busy : c.control.port.busy.0 ≡ 0
  pub at_byte : c.control.address.position ≡ 8 * a
  pub at_rate : rate_of c.control.device ≡ r

-- The opening: power-up takes these bytes, and the chip is then ready at a.
abbrev pub Opening : Type 0
Opening =
    (image : List ℕ) (a : ℕ) → image_valid image ≡ true → a < length image → (d : Device) → device_valid d ≡ true → (o : BitOrder)
    → (ls ms : List ℕ) → RateBytes ls → RateBytes ms → (l : Loads a)
    → (refusals_of image (power_up_of d o) (opening_bytes ls l ms) ≡ map (λ (b : ℕ). TAKEN) (opening_bytes ls l ms))
    × Ready (rate_of (device_after d (ls ++ ms))) a (after_bytes image (power_up_of d o) (opening_bytes ls l ms))

-- The core: a chip that is ready at a takes Speak, and then every list of calls gets the answers that are due.
abbrev pub Core : Type 0
Core =
    (image : List ℕ) (a : ℕ) → image_valid image ≡ true → a < length image → (r : FrameRate) (c : Chip) → Ready r a c → (s : SpeakByte)
    → ((write_of image c s.byte).refusal ≡ TAKEN)
    × ((is : List Item) → ItemsThere pitch_width r image a is → AnswersDue (rated_form r) image a is (write_of image c s.byte).chip)
