-- The ranges of what an interpolation gives: a value moves towards its target and never past it, so a range that holds both
-- holds the result.
-- Assumes nothing.
use mathlib.Core.Path.{◌≡◌, sym, ◌∙◌}
use mathlib.Core.Logic.{⊎_elim}
use mathlib.Core.List.{List, [], ◌∷◌, zip_with}
use Prim.Native.Nat.{ℕ, zero, suc}
use native.Mathlib.Omega.{arith}
use lib.IntN.{ℤ, pos, neg_ℤ, ◌-ℤ◌}
use lib.ListN.{get_or}
use lib.Signed.{shr_z}
use Rattle.base.specs.Range.{pos_part, neg_part, Between}
use Rattle.base.proofs.Range.{parts_add, parts_neg, parts_shr, one_part, ordered}
use Rattle.filter.specs.Ranges.{TenBetween}
use Rattle.sound.specs.Interpolation.{toward_by}
use Rattle.sound.proofs.Zipped.{zip_length}

pub toward_between : (d : ℕ) {n p : ℕ} {c t : ℤ} → Between n p c → Between n p t → Between n p (toward_by d c t)
toward_between d {c} {t} h k =
    let D = t -ℤ c in
    let plus = parts_add c (shr_z D d) in
    let diff = parts_add t (neg_ℤ c) in
    let neg = parts_neg c in
    let quot = parts_shr D d in
    ⊎_elim (λ (z : neg_part D ≡ 0). ordered (toward_by d c t) (omega arith) (omega arith))
    (λ (z : pos_part D ≡ 0). ordered (toward_by d c t) (omega arith) (omega arith)) (one_part D)

pub toward_each_between : (d : ℕ) {n p : ℕ} {a b : List ℤ} → TenBetween n p a → TenBetween n p b → TenBetween n p (zip_with (toward_by d) a b)
unfolding zip_with
toward_each_between d {n} {p} {a} {b} h k = record { size = zip_length (toward_by d) a b (h.size ∙ sym k.size) ∙ h.size; each = both a b h.each k.each }
  where
    both : (a b : List ℤ) → ((i : ℕ) → Between n p (get_or a i (pos 0))) → ((i : ℕ) → Between n p (get_or b i (pos 0))) → (i : ℕ) → Between n p (get_or (zip_with (toward_by d) a b) i (pos 0))
    both [] b h k i = h i
    both (x ∷ a) [] h k i = k i
    both (x ∷ a) (y ∷ b) h k zero = toward_between d (h 0) (k 0)
    both (x ∷ a) (y ∷ b) h k (suc i) = both a b (λ (j : ℕ). h (suc j)) (λ (j : ℕ). k (suc j)) i
