-- Integers of 64 bits and natural numbers.
-- Assumes nothing.
use mathlib.Core.Path.{◌≡◌, refl, ap, subst, ◌∙◌}
use mathlib.Core.Bool.{true, false}
use Prim.Native.Nat.{ℕ, zero, suc, ◌+◌, ◌-◌, ◌^◌, ◌<◌}
use native.Mathlib.Omega.{arith}
use lib.Dec.{T}
use lib.IntN.{ℤ, pos, negsuc, nat_abs, ◌-ℤ◌}
use lib.Signed.{lt_z, non_neg, mag}
use mir.Syntax.{w64}
use mir.Val.{to_z, of_z}
use borrow.Author.Tests.{ltb-true, le-ltb}
use Rattle.base.proofs.Range.{back_at}

-- what a call returns and what an operation leaves in an i64 are read as they are
pub returned : {r z : ℤ} → mag r < 2 ^ 63 → r ≡ z → to_z w64 (of_z w64 r) ≡ z
returned {r} h e = back_at w64 r h ∙ e

pub not_negative : (z : ℤ) → lt_z z (pos 0) ≡ false → T (non_neg z)
not_negative (pos n) e = tt
not_negative (negsuc n) e = subst T e tt

pub abs_below : (z : ℤ) → mag z < 2 ^ 63 → nat_abs z < 2 ^ 64
abs_below (pos n) h = omega arith
abs_below (negsuc n) h = omega arith

-- -1 less a negative number is its magnitude less 1
pub below_minus_one : (z : ℤ) → lt_z z (pos 0) ≡ true → negsuc 0 -ℤ z ≡ pos (nat_abs z - 1)
below_minus_one (pos n) e = absurd (omega (arith, ltb-true n 0 e))
below_minus_one (negsuc n) e = rw (le-ltb (suc n) 1 (omega arith))

pub negative_abs : (z : ℤ) → lt_z z (pos 0) ≡ true → mag z < 2 ^ 63 → (nat_abs z - 1 < 2 ^ 63) × (nat_abs z - 1 + 1 ≡ nat_abs z)
negative_abs (pos n) e h = absurd (omega (arith, ltb-true n 0 e))
negative_abs (negsuc n) e h = (omega arith, omega arith)

pub minus_one_less : (m : ℕ) → negsuc 0 -ℤ pos m ≡ negsuc m
minus_one_less zero = refl
minus_one_less (suc m) = let e : suc (0 + m) ≡ suc m = omega arith in ap negsuc e
