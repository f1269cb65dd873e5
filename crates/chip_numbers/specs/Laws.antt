-- What is proved of the numbers: a chip may be suspended and resumed, and numbers that are no chip's are refused.
use Rattle.std.specs.Prelude.{◌≡◌, true, false, List, ℕ, ◌≤◌, ℤ, length, get_or}
use Rattle.chip.specs.Validity.{valid}
use Rattle.chip_numbers.specs.Types.{Chip}
use Rattle.chip_numbers.specs.Chips.{chip_length, chip_numbers, fits, chip_of}

-- the FIFO's bytes and the data byte are bytes, as their type says
pub record OfBytes (c : Chip) : Type 0 where
  pub bytes : (i : ℕ) → get_or c.control.fifo.bytes i 0 ≤ 255
  pub «data» : c.control.port.«data» ≤ 255

-- The numbers of a valid chip fit
abbrev pub ValidFits : Type 0
ValidFits = (c : Chip) → OfBytes c → valid c ≡ true → fits (chip_numbers c) ≡ true

-- and it comes back from them as it was.
abbrev pub ComesBack : Type 0
ComesBack = (c : Chip) → OfBytes c → valid c ≡ true → chip_of (chip_numbers c) ≡ c

-- Numbers that fit are those of the chip that they say.
abbrev pub NumbersStay : Type 0
NumbersStay = (s : List ℤ) → length s ≡ chip_length → fits s ≡ true → chip_numbers (chip_of s) ≡ s

-- The chip of numbers that do not fit is not valid, so that every call refuses it with 4, at that number's place in the order of checks.
abbrev pub UnfitInvalid : Type 0
UnfitInvalid = (s : List ℤ) → fits s ≡ false → valid (chip_of s) ≡ false
