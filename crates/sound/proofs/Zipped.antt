-- Two lists zipped: the length, and each element; and the array that a closure makes of them, called at each index.
-- Assumes nothing.
use mathlib.Core.Path.{◌≡◌, refl, sym, ap, subst, ◌∙◌}
use mathlib.Core.List.{List, [], ◌∷◌, zip_with}
use Prim.Native.Nat.{ℕ, zero, suc, ◌+◌, ◌≤◌, ◌<◌}
use native.Mathlib.Decide.{ℕ_discrete}
use native.Mathlib.Omega.{arith}
use denote.Param.Members.{Mut, Called}
use lib.ListN.{length, get_or}
use Rattle.std.proofs.lemmas.List.{ext_get_or}
use Rattle.std.specs.Array.{IsFromFnResultFrom, IsFromFnResult}

module _ {A : Type 0} (f : A → A → A) where
  pub zip_length : (a b : List A) → length a ≡ length b → length (zip_with f a b) ≡ length a
  unfolding zip_with
  zip_length [] [] e = refl
  zip_length [] (y ∷ b) e = absurd (omega arith)
  zip_length (x ∷ a) [] e = absurd (omega arith)
  zip_length (x ∷ a) (y ∷ b) e = ap suc (zip_length a b (omega arith))

  zip_element : (d : A) (a b : List A) (i : ℕ) → i < length a → i < length b → f (get_or a i d) (get_or b i d) ≡ get_or (zip_with f a b) i d
  unfolding zip_with
  zip_element d [] b i h k = absurd (omega arith)
  zip_element d (x ∷ a) [] i h k = absurd (omega arith)
  zip_element d (x ∷ a) (y ∷ b) zero h k = refl
  zip_element d (x ∷ a) (y ∷ b) (suc i) h k = zip_element d a b i (omega arith) (omega arith)

  -- g calls s, which a call leaves as it is
  module _ {S : Type 0} (g : Mut S (ℕ × Unit {0}) A) (s : S) (d : A) (a b ys : List A) (n : ℕ)
      (called : (i : ℕ) (y : A) (t : S) → i < n → Called g s (i, tt) y t → (t ≡ s) × (y ≡ f (get_or a i d) (get_or b i d))) where
    each_called : (m i : ℕ) → i + m ≤ n → IsFromFnResultFrom g s ys i m → (k : ℕ) → i ≤ k → k < i + m → get_or ys k d ≡ f (get_or a k d) (get_or b k d)
    each_called zero i l h k low high = absurd (omega arith)
    each_called (suc m) i l h k low high =
        let first = called i h.1 h.0 (omega arith) h.3 in
        let here : get_or ys i d ≡ f (get_or a i d) (get_or b i d) = h.2.1 d ∙ first.1 in
        let rest = subst (λ (t : S). IsFromFnResultFrom g t ys (i + 1) m) first.0 h.4 in
        elim (ℕ_discrete k i) [ yes e ↦ rw (e, here) | no ne ↦ each_called m (i + 1) (omega arith) rest k (omega arith) (omega arith) ]

    pub zip_called : length a ≡ n → length b ≡ n → IsFromFnResult g s ys n → ys ≡ zip_with f a b
    zip_called p q h =
        let long = zip_length a b (p ∙ sym q) in
        ext_get_or d ys (zip_with f a b) (h.long ∙ sym (long ∙ p))
        (λ k l. each_called n 0 (omega arith) h.each k (omega arith) (omega (arith, h.long)) ∙ zip_element d a b k (omega (arith, h.long)) (omega (arith, h.long)))
