-- Bytes written one after another, each to the chip that the last write handed back.
use Rattle.std.specs.Prelude.{List, [], ◌∷◌, ℕ}
use Rattle.chip.specs.Write.{write_of}
use Rattle.chip.specs.declared.state.Chip.{Chip}

-- the chip after the bytes
abbrev pub after_bytes : List ℕ → Chip → List ℕ → Chip
after_bytes image c [] = c
after_bytes image c (b ∷ bs) = after_bytes image (write_of image c b).chip bs

-- the refusal number of each byte
abbrev pub refusals_of : List ℕ → Chip → List ℕ → List ℕ
refusals_of image c [] = []
refusals_of image c (b ∷ bs) = (write_of image c b).refusal ∷ refusals_of image (write_of image c b).chip bs
