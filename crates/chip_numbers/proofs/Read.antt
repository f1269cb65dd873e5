-- Ten numbers read one after another.
-- Assumes nothing.
use mathlib.Core.Path.{◌≡◌, sym, ap, ◌∙◌}
use mathlib.Core.List.{List, [], ◌∷◌, ◌++◌, map}
use Prim.Native.Nat.{ℕ, ◌+◌, ◌<◌}
use native.Mathlib.Omega.{arith}
use lib.IntN.{ℤ, pos}
use lib.ListN.{length, take, drop, set, length-drop}
use lib.Seq.{get_or-drop}
use Rattle.std.proofs.lemmas.List.{map_more, take_more_set}
use Rattle.chip_numbers.specs.Fields.{nth}

pub read_more : (f : ℤ → ℤ) (s out : List ℤ) (at i : ℕ) (v : ℤ) → take i out ≡ map f (take i (drop at s)) → i < length out → at + i < length s
    → v ≡ f (nth s (at + i)) → take (i + 1) (set out i v) ≡ map f (take (i + 1) (drop at s))
read_more f s out at i v e h k o =
    take_more_set out i v h
    ∙ ap (λ r. r ++ v ∷ []) e
    ∙ ap (λ y. map f (take i (drop at s)) ++ y ∷ []) (o ∙ ap f (sym (get_or-drop at s i (pos 0))))
    ∙ sym (map_more f (drop at s) i (pos 0) (simp length-drop (omega arith)))
