-- What a valid chip's fields are, from the tests.
-- Assumes nothing.
use mathlib.Core.Path.{◌≡◌, refl}
use mathlib.Core.Bool.{true, ◌||◌, or-true}
use mathlib.Core.List.{[], ◌∷◌}
use Prim.Native.Nat.{◌≤◌, ◌<◌}
use Rattle.base.proofs.Booleans.{all_true}
use Rattle.sound.specs.State.{sound_valid, rest_sound, at_rest}
use Rattle.sound.proofs.Laws.{stays_valid, rest_exactly}
use Rattle.address.specs.Addresses.{position_limit, nibbles}
use Rattle.address.proofs.Ranges.{address_ranges}
use Rattle.clock.specs.Counters.{last_sample, last_interval}
use Rattle.clock.proofs.Ranges.{clock_ranges}
use Rattle.control.specs.Validity.{speaks, control_valid}
use Rattle.control.proofs.Ranges.{ControlRanges, control_ranges, control_in_ranges}
use Rattle.chip.specs.Types.{Control, Chip}
use Rattle.chip.specs.Validity.{valid}

-- the conditions of a valid chip
pub record ChipRanges (c : Chip) : Type 0 where
  pub control : ControlRanges c.control
  pub sound : sound_valid c.sound ≡ true
  pub quiet : (c.control.clock.sounding || at_rest c.sound) ≡ true

pub chip_ranges : (c : Chip) → valid c ≡ true → ChipRanges c
unfolding valid
chip_ranges c h =
    let r = all_true (control_valid c.control ∷ sound_valid c.sound ∷ (c.control.clock.sounding || at_rest c.sound) ∷ []) h in
    record { control = control_ranges c.control r.0; sound = r.1.0; quiet = r.1.1.0 }

pub valid_address : (c : Chip) → valid c ≡ true → (c.control.address.position ≤ position_limit) × (c.control.address.next_nibble < nibbles)
valid_address c h = address_ranges _ (chip_ranges c h).control.address

pub valid_clock : (c : Chip) → valid c ≡ true → (c.control.clock.sample.0 ≤ last_sample) × (c.control.clock.interval.0 ≤ last_interval)
valid_clock c h = clock_ranges (speaks c.control.mode) c.control.clock (chip_ranges c h).control.clock

-- and back: a chip whose fields are in their ranges is valid
pub in_ranges : (c : Chip) → ChipRanges c → valid c ≡ true
unfolding valid
in_ranges c r = rw (control_in_ranges c.control r.control, r.sound, r.quiet)

-- a sound at rest is valid with every valid control
pub at_rest_lem : (k : Control) → ControlRanges k → ChipRanges (record { control = k; sound = rest_sound })
at_rest_lem k h = record { control = h; sound = stays_valid.rest; quiet = rw ((rest_exactly rest_sound).test refl) (or-true k.clock.sounding) }
