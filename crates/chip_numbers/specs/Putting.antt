-- A part put into a chip's numbers.
use Rattle.std.specs.Prelude.{◌≡◌, List, ◌++◌, ℕ, ◌+◌, ℤ, length, take}
use Rattle.chip_numbers.specs.Chips.{chip_length}

-- `new` is `old` up to number `at`, and then the part, up to number `to`; what follows is not told
pub record Put (old : List ℤ) (at : ℕ) (part : List ℤ) (to : ℕ) (new : List ℤ) : Type 0 where
  pub whole : length new ≡ chip_length
  pub fills : at + length part ≡ to
  pub is : take to new ≡ take at old ++ part
