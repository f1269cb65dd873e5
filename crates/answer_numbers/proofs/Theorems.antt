-- The laws of specs/Laws.antt.
-- Assumes nothing.
use mathlib.Core.Path.{◌≡◌, refl}
use mathlib.Core.Bool.{Bool, true, false, cond}
use mathlib.Core.List.{List, []}
use Prim.Native.Nat.{ℕ, ◌+◌, ◌/◌}
use lib.Dec.{eqb}
use lib.ListN.{take, drop}
use Rattle.rom.specs.Phrases.{walk_of, part_of, phrase_of}
use Rattle.rom.specs.Phrases.{Walked}
use Rattle.rates.specs.Walks.{rated_walk_of, rated_phrase_of}
use Rattle.answer_numbers.specs.Answers.{part_offset, part_length}
use Rattle.answer_numbers.specs.Laws.{PartIs, RatedPartIs}

-- of any walk
part_of_lem : (s : List ℕ) (a : ℕ) (w : Walked) → take (part_length w) (drop (part_offset a w) s) ≡ part_of s a w.refusal w.bits
part_of_lem s a w = of (eqb w.refusal 0)
  where
    of : (t : Bool) → take (cond t ((w.bits + 7) / 8) 0) (drop (cond t a 0) s) ≡ cond t (take ((w.bits + 7) / 8) (drop a s)) []
    of true = refl
    of false = refl

pub part_is : PartIs
unfolding phrase_of
part_is P image a = part_of_lem image a (walk_of P image a)

pub rated_part_is : RatedPartIs
unfolding rated_phrase_of
rated_part_is P rate image a = part_of_lem image a (rated_walk_of P rate image a)
