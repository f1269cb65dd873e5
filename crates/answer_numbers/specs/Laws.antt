-- What is proved of a walk's numbers.
use Rattle.std.specs.Prelude.{◌≡◌, List, ℕ, take, drop}
use Rattle.rom.specs.Phrases.{walk_of, phrase_of}
use Rattle.rates.specs.Walks.{rated_walk_of, rated_phrase_of}
use Rattle.rates.specs.declared.rate.FrameRate.{FrameRate}
use Rattle.answer_numbers.specs.Answers.{part_offset, part_length}

-- The offset and the length of a walk are those of the part of the image that the phrase takes, for the TMS5220
abbrev pub PartIs : Type 0
PartIs =
    (P : ℕ) (image : List ℕ) (a : ℕ) → let w = walk_of P image a in
    take (part_length w) (drop (part_offset a w) image) ≡ phrase_of P image a

-- and the TMS5220C.
abbrev pub RatedPartIs : Type 0
RatedPartIs =
    (P : ℕ) (rate : FrameRate) (image : List ℕ) (a : ℕ) → let w = rated_walk_of P rate image a in
    take (part_length w) (drop (part_offset a w) image) ≡ rated_phrase_of P rate image a
