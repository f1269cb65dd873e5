-- The lattice filter from the last stage down: one stage more at the end of the lists, and what a stage does in place.
-- Assumes nothing.
use mathlib.Core.Path.{◌≡◌, refl, sym, ap, ap₂, ◌∙◌}
use mathlib.Core.List.{List, [], ◌∷◌, ◌++◌, append_assoc, append-nil}
use Prim.Native.Nat.{ℕ, suc, ◌<◌}
use native.Mathlib.Nat.{suc_inj}
use native.Mathlib.Decide.{dec_lt}
use native.Mathlib.Omega.{arith}
use lib.IntN.{ℤ, pos}
use lib.ListN.{length, take, drop, get_or, length-set, drop_of_length-le}
use lib.Seq.{take-suc, take-set-le, length-take-le, take_all, take_at}
use Rattle.std.proofs.Common.{add-one}
use Rattle.std.proofs.lemmas.List.{drop-set}
use Rattle.filter.specs.Filter.{forward_of, memory_of, forward, upper_memory, new_memory}
use Rattle.filter.specs.Stages.{stage_forward, stage_memory, lowest_forward, lowest_memory}

-- ---- a stage more at the end: the stages below it see its forward value as their input

module _ (k m x : ℤ) where
  forward_snoc : (ks ms : List ℤ) → length ks ≡ length ms → forward (ks ++ k ∷ []) (ms ++ m ∷ []) x ≡ forward ks ms (forward_of k m x)
  forward_snoc [] [] e = refl
  forward_snoc [] (n ∷ ms) e = absurd (omega arith)
  forward_snoc (j ∷ ks) [] e = absurd (omega arith)
  forward_snoc (j ∷ ks) (n ∷ ms) e = ap (forward_of j n) (forward_snoc ks ms (suc_inj e))

  upper_snoc : (ks ms : List ℤ) → length ks ≡ length ms
      → upper_memory (ks ++ k ∷ []) (ms ++ m ∷ []) x ≡ upper_memory ks ms (forward_of k m x) ++ memory_of k m (forward_of k m x) ∷ []
  upper_snoc [] [] e = refl
  upper_snoc [] (n ∷ ms) e = absurd (omega arith)
  upper_snoc (j ∷ ks) [] e = absurd (omega arith)
  upper_snoc (j ∷ ks) (n ∷ ms) e =
      ap₂ (λ (f : ℤ) (r : List ℤ). memory_of j n (forward_of j n f) ∷ r) (forward_snoc ks ms (suc_inj e)) (upper_snoc ks ms (suc_inj e))

pub upper_length : (ks ms : List ℤ) (x : ℤ) → length ks ≡ length ms → length (upper_memory ks ms x) ≡ length ks
upper_length [] [] x e = refl
upper_length [] (m ∷ ms) x e = refl
upper_length (k ∷ ks) [] x e = absurd (omega arith)
upper_length (k ∷ ks) (m ∷ ms) x e = ap suc (upper_length ks ms x (suc_inj e))

-- ---- the lowest stages, in place

module _ (ks ms : List ℤ) (same : length ks ≡ length ms) where
  -- the lowest i + 1 stages are the stage at index i, and then those below it, which do not see what it stored
  module _ (f : ℤ) (i : ℕ) (h : i < length ms) where
    abbrev kᵢ : ℤ
    kᵢ = get_or ks i (pos 0)

    abbrev mᵢ : ℤ
    mᵢ = get_or ms i (pos 0)

    abbrev fᵢ : ℤ
    fᵢ = stage_forward ks ms f i

    abbrev bᵢ : ℤ
    bᵢ = memory_of kᵢ mᵢ fᵢ

    abbrev mem : List ℤ
    mem = stage_memory ks ms f i

    abbrev below : List ℤ
    below = upper_memory (take i ks) (take i ms) fᵢ

    level : length (take i ks) ≡ length (take i ms)
    level = length-take-le i ks (omega arith) ∙ sym (length-take-le i ms (omega arith))

    unread : take i mem ≡ take i ms
    unread = take-set-le i ms (suc i) bᵢ (omega arith)

    more_forward : lowest_forward ks ms fᵢ i ≡ lowest_forward ks ms f (suc i)
    more_forward = rw (take-suc ks i (pos 0) (omega arith), take-suc ms i (pos 0) h) (sym (forward_snoc kᵢ mᵢ f (take i ks) (take i ms) level))

    more_upper : upper_memory (take (suc i) ks) (take (suc i) ms) f ≡ below ++ bᵢ ∷ []
    more_upper = rw (take-suc ks i (pos 0) (omega arith), take-suc ms i (pos 0) h) (upper_snoc kᵢ mᵢ f (take i ks) (take i ms) level)

    -- with a memory above the stage, what it stored follows; the last stage's is cut off
    more_memory : Dec (suc i < length ms) → (a : ℤ)
        → take (length ms) (a ∷ (below ++ drop (suc i) mem)) ≡ take (length ms) (a ∷ ((below ++ bᵢ ∷ []) ++ drop (suc (suc i)) ms))
    more_memory (yes l) a = rw (drop-set ms (suc i) bᵢ l, add-one, append_assoc)
    more_memory (no l) a =
        let e : length ms ≡ suc i = omega arith in
        let n : length below ≡ i = upper_length (take i ks) (take i ms) fᵢ level ∙ length-take-le i ks (omega arith) in
        rw (e, append_assoc, take_at below (drop (suc i) mem) i n, take_at below (bᵢ ∷ drop (suc (suc i)) ms) i n)

    pub lowest_more : (n : ℕ) {g : ℤ} {after : List ℤ} → suc i ≡ n → g ≡ fᵢ → after ≡ mem
        → (lowest_forward ks after g i ≡ lowest_forward ks ms f n) × (lowest_memory ks after g i ≡ lowest_memory ks ms f n)
    lowest_more n e p q =
        rw (p, q, ← e) (
          rw unread more_forward,
          rw (unread, length-set ms (suc i) bᵢ, more_upper, more_forward) (more_memory (dec_lt (suc i) (length ms)) (lowest_forward ks ms f (suc i))),
        )

  -- all the stages are the whole filter
  pub whole : (x : ℤ) (n : ℕ) → length ms ≡ n → (lowest_forward ks ms x n ≡ forward ks ms x) × (lowest_memory ks ms x n ≡ new_memory ks ms x)
  whole x n e =
      rw (take_all n ks (omega arith), take_all n ms (omega arith), drop_of_length-le ms {i = suc n} (omega arith), append-nil) (refl, refl)
