-- The ranges of what a stage of the filter and the whole filter give.
-- Assumes nothing.
use mathlib.Core.Path.{◌≡◌, sym, ◌∙◌}
use mathlib.Core.List.{List, [], ◌∷◌}
use Prim.Native.Nat.{ℕ, zero, suc}
use native.Mathlib.Omega.{arith}
use lib.IntN.{ℤ, pos}
use lib.ListN.{length, take, get_or, set, length-set}
use lib.Seq.{length-take-le}
use Rattle.base.specs.Range.{Between}
use Rattle.base.proofs.Range.{clamped_between}
use Rattle.filter.specs.Filter.{saturated, forward, upper_memory, new_memory}
use Rattle.filter.specs.Ranges.{TenBetween}
use Rattle.filter.specs.Stages.{stage_memory}
use Rattle.filter.proofs.Lattice.{upper_length}

saturated_range : (z : ℤ) → Between 8192 8191 (saturated z)
saturated_range z = clamped_between 8192 8191 z

-- ---- ten numbers

module _ {n p : ℕ} where
  set_range : (l : List ℤ) (i : ℕ) {a : ℤ} → Between n p a → ((j : ℕ) → Between n p (get_or l j (pos 0))) → (j : ℕ) → Between n p (get_or (set l i a) j (pos 0))
  set_range [] i h k j = k j
  set_range (b ∷ l) zero h k zero = h
  set_range (b ∷ l) zero h k (suc j) = k (suc j)
  set_range (b ∷ l) (suc i) h k zero = k 0
  set_range (b ∷ l) (suc i) h k (suc j) = set_range l i h (λ (x : ℕ). k (suc x)) j

  take_range : (m : ℕ) (l : List ℤ) → ((j : ℕ) → Between n p (get_or l j (pos 0))) → (j : ℕ) → Between n p (get_or (take m l) j (pos 0))
  take_range zero l k j = omega arith
  take_range (suc m) [] k j = omega arith
  take_range (suc m) (a ∷ l) k zero = k 0
  take_range (suc m) (a ∷ l) k (suc j) = take_range m l (λ (x : ℕ). k (suc x)) j

-- a stage keeps the memory's range
pub stage_range : (ks : List ℤ) {ms : List ℤ} (f : ℤ) (i : ℕ) → TenBetween 8192 8191 ms → TenBetween 8192 8191 (stage_memory ks ms f i)
stage_range ks {ms} f i h = record { size = length-set ms (suc i) _ ∙ h.size; each = set_range ms (suc i) (saturated_range _) h.each }

upper_range : (ks ms : List ℤ) (x : ℤ) (i : ℕ) → Between 8192 8191 (get_or (upper_memory ks ms x) i (pos 0))
upper_range [] ms x i = omega arith
upper_range (k ∷ ks) [] x i = omega arith
upper_range (k ∷ ks) (m ∷ ms) x zero = saturated_range _
upper_range (k ∷ ks) (m ∷ ms) x (suc i) = upper_range ks ms x i

-- new memory is in range, whatever the old was
pub memory_range : (ks ms : List ℤ) (x : ℤ) → length ks ≡ 10 → length ms ≡ 10 → TenBetween 8192 8191 (new_memory ks ms x)
memory_range ks ms x hk hm =
    record {
      size = length-take-le (length ms) (forward ks ms x ∷ upper_memory ks ms x) (omega (arith, upper_length ks ms x (hk ∙ sym hm))) ∙ hm;
      each = take_range (length ms) (forward ks ms x ∷ upper_memory ks ms x) (all ks ms hk hm);
    }
  where
    all : (ks ms : List ℤ) → length ks ≡ 10 → length ms ≡ 10 → (i : ℕ) → Between 8192 8191 (get_or (forward ks ms x ∷ upper_memory ks ms x) i (pos 0))
    all [] ms hk hm i = absurd (omega arith)
    all (k ∷ ks) [] hk hm i = absurd (omega arith)
    all (k ∷ ks) (m ∷ ms) hk hm zero = saturated_range _
    all (k ∷ ks) (m ∷ ms) hk hm (suc i) = upper_range (k ∷ ks) (m ∷ ms) x i
