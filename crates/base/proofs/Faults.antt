-- The first of a list of faults, and what a call returns by its fault.
-- Assumes nothing.
use mathlib.Core.Path.{◌≡◌, refl, sym, ap, ◌∙◌}
use mathlib.Core.Bool.{Bool, true, false, not, true≢false}
use mathlib.Core.List.{List, [], ◌∷◌}
use Prim.Native.Nat.{ℕ, zero, suc}
use native.Mathlib.Omega.{arith}
use borrow.Author.Tests.{not-false, eqb-true, eqb-false, eq-eqb, ne_eqb}
use lib.Dec.{eqb}
use Rattle.base.specs.Refusals.{first_fault, unless_fault}
use Rattle.base.proofs.Booleans.{by_test, cond_true, cond_false}

-- ---- a list of faults

-- none of them applies
abbrev pub NoneApplies : List (Bool × ℕ) → Type 0
NoneApplies [] = Unit {0}
NoneApplies (f ∷ fs) = (f.0 ≡ false) × NoneApplies fs

-- no fault that applies has the number 0; of a list with its numbers written out this computes, and `tt` proves it
abbrev pub Numbered : List (Bool × ℕ) → Type 0
Numbered [] = Unit {0}
Numbered ((fault, zero) ∷ fs) = (fault ≡ false) × Numbered fs
Numbered ((fault, suc n) ∷ fs) = Numbered fs

-- a fault that applies where its number, the fault of something else, is not 0
pub own_number : (n : ℕ) (fs : List (Bool × ℕ)) → Numbered fs → Numbered ((not (eqb n 0), n) ∷ fs)
own_number zero fs h = (refl, h)
own_number (suc n) fs h = h

-- that number is 0 where it does not apply
pub own_none : (n : ℕ) → not (eqb n 0) ≡ false → n ≡ 0
own_none n e = eqb-true n 0 (not-false (eqb n 0) e)

-- where the first fault is 0, none applies
pub none_applies : (fs : List (Bool × ℕ)) → Numbered fs → first_fault fs ≡ 0 → NoneApplies fs
none_applies [] h e = tt
none_applies ((true, zero) ∷ fs) h e = absurd (true≢false h.0)
none_applies ((true, suc n) ∷ fs) h e = absurd (omega arith)
none_applies ((false, zero) ∷ fs) h e = (refl, none_applies fs h.1 e)
none_applies ((false, suc n) ∷ fs) h e = (refl, none_applies fs h e)

-- where none applies, it is 0
pub faultless : (fs : List (Bool × ℕ)) → NoneApplies fs → first_fault fs ≡ 0
faultless [] h = refl
faultless (f ∷ fs) h = rw h.0 (faultless fs h.1)

-- ---- a call that tests them one after another and returns the number of the first that applies

-- m is that number, by what each test gave
pub data First : List (Bool × ℕ) → ℕ → Type 0 where
  none : First [] 0
  applies : {r fault : Bool} {n : ℕ} {fs : List (Bool × ℕ)} → r ≡ fault → r ≡ true → First ((fault, n) ∷ fs) n
  passes : {r fault : Bool} {n m : ℕ} {fs : List (Bool × ℕ)} → r ≡ fault → r ≡ false → First fs m → First ((fault, n) ∷ fs) m

pub first_is : {fs : List (Bool × ℕ)} {m : ℕ} → First fs m → m ≡ first_fault fs
first_is none = refl
first_is (applies {fault} {n} {fs} e h) = sym (cond_true fault n (first_fault fs) (sym e ∙ h))
first_is (passes {fault} {n} {fs} e h k) = first_is k ∙ sym (cond_false fault n (first_fault fs) (sym e ∙ h))

-- where the call tests that something is as it should be
module _ {r ok : Bool} {n : ℕ} {fs : List (Bool × ℕ)} (e : r ≡ ok) where
  pub applies_not : not r ≡ true → First ((not ok, n) ∷ fs) n
  applies_not h = applies (ap not e) h

  pub passes_not : {m : ℕ} → not r ≡ false → First fs m → First ((not ok, n) ∷ fs) m
  passes_not h k = passes (ap not e) h k

-- where it tests the fault of something else
module _ {r n : ℕ} {fs : List (Bool × ℕ)} (e : r ≡ n) where
  pub applies_own : (r ≡ 0 → ⊥) → First ((not (eqb n 0), n) ∷ fs) r
  applies_own h = rw (← e) (applies {r = not (eqb r 0)} refl (rw (ne_eqb r 0 h)))

  pub passes_own : {m : ℕ} → r ≡ 0 → First fs m → First ((not (eqb n 0), n) ∷ fs) m
  passes_own h k = passes {r = not (eqb n 0)} refl (rw (← e, h)) k

-- ---- what a call returns by its fault

module _ {A : Type 0} {r : A} {n fault : ℕ} (e : n ≡ fault) (refused : ℕ → A) (answer : A) where
  pub answered : n ≡ 0 → r ≡ answer → r ≡ unless_fault fault refused answer
  answered h a = rw (← e, eq-eqb n 0 h, a)

  pub refused_with : (n ≡ 0 → ⊥) → r ≡ refused n → r ≡ unless_fault fault refused answer
  refused_with h a = rw (← e, ne_eqb n 0 h, a)

-- what holds of the answer where n is no fault, and of the refusal where it is, holds of the one that n gives
pub by_fault : {A : Type 0} (C : A → Type 0) (n : ℕ) (refused : ℕ → A) (answer : A) → (n ≡ 0 → C answer)
    → ((n ≡ 0 → ⊥) → C (refused n)) → C (unless_fault n refused answer)
by_fault C n refused answer f g = by_test C (eqb n 0) (λ e. f (eqb-true n 0 e)) (λ e. g (eqb-false n 0 e))
