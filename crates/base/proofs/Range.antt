-- Integer arithmetic for `omega`: each operation as linear facts on the positive and negative parts of its numbers; one law
-- for each operation that takes ranges to a range; and the ways between a range and an i32 that holds the number.
-- Assumes nothing.
use mathlib.Core.Path.{◌≡◌, refl, sym, ◌∙◌, subst}
use mathlib.Core.Logic.{◌⊎◌, inl, inr}
use mathlib.Core.Bool.{true, false, not, ◌&&◌}
use mathlib.Core.List.{List, [], ◌∷◌}
use Prim.Native.Nat.{ℕ, zero, suc, ◌+◌, ◌*◌, ◌^◌, ◌≤◌, ◌<◌, max}
use native.Mathlib.Nat.{mul-le-mul, div-le_self, le-max_left, le-max_right}
use native.Mathlib.Omega.{arith}
use lib.Dec.{T, eqb, leb, ltb, ltb→lt, leb→le}
use lib.Ieee.Fits.{and_l, and_r}
use lib.IntN.{ℤ, pos, negsuc, neg_ℤ, nat_abs, sub_ℕ, ◌+ℤ◌, ◌-ℤ◌, ◌*ℤ◌}
use lib.ListN.{get_or}
use lib.Signed.{mag, shr_z, lt_z}
use mir.Syntax.{Width, w32}
use mir.Val.{hbits, SFits, to_z, of_z}
use mir.ValLaws.{to_z-of_z}
use borrow.Author.Tests.{ltb-true, ltb-false, le-ltb, ne_eqb, not-true}
use Rattle.base.proofs.Booleans.{both_true, by_test}
use Rattle.base.specs.Range.{pos_part, neg_part, Between, inside, all_inside, clamped}

-- ---- the parts of a result

-- s is a less b, both parts of s being as small as can be
pub record Parts (s : ℤ) (a b : ℕ) : Type 0 where
  pub exact : pos_part s + b ≡ a + neg_part s
  pub up : pos_part s ≤ a
  pub down : neg_part s ≤ b

parts_sub : (a b : ℕ) → Parts (sub_ℕ a b) a b
parts_sub a b = by_test (λ z. Parts z a b) (ltb a b) (λ e. omega (arith, ltb-true a b e)) (λ e. omega (arith, ltb-false a b e))

pub parts_add : (a b : ℤ) → Parts (a +ℤ b) (pos_part a + pos_part b) (neg_part a + neg_part b)
parts_add (pos a) (pos b) = omega arith
parts_add (pos a) (negsuc b) = omega (arith, parts_sub a (suc b))
parts_add (negsuc a) (pos b) = omega (arith, parts_sub b (suc a))
parts_add (negsuc a) (negsuc b) = omega arith

pub parts_neg : (a : ℤ) → Parts (neg_ℤ a) (neg_part a) (pos_part a)
parts_neg (pos zero) = omega arith
parts_neg (pos (suc a)) = omega arith
parts_neg (negsuc a) = omega arith

-- rounded down, a quotient is between 0 and the number, or -1 and the number
pub parts_shr : (a : ℤ) (m : ℕ) → Between (neg_part a) (pos_part a) (shr_z a m)
parts_shr (pos a) m = record { low = omega arith; high = div-le_self a m }
parts_shr (negsuc a) m = record { low = omega (arith, div-le_self a m); high = omega arith }

-- one part is 0
pub one_part : (a : ℤ) → (neg_part a ≡ 0) ⊎ (pos_part a ≡ 0)
one_part (pos a) = inl refl
one_part (negsuc a) = inr refl

-- ---- ranges

-- from the order: a ≤ p and -n ≤ a
pub ordered : {n p : ℕ} (a : ℤ) → pos_part a ≤ p + neg_part a → neg_part a ≤ n + pos_part a → Between n p a
ordered (pos a) h k = omega arith
ordered (negsuc a) h k = omega arith

module _ {n p : ℕ} {a : ℤ} (h : Between n p a) where
  -- a wider range: `wider h tt tt`
  pub wider : {m q : ℕ} → T (leb n m) → T (leb p q) → Between m q a
  wider {m} {q} s t = omega (arith, leb→le n m s, leb→le p q t)

  -- floor(a / m)
  pub quotient : (m : ℕ) → Between n p (shr_z a m)
  quotient m = omega (arith, parts_shr a m)

  module _ {m q : ℕ} {b : ℤ} (k : Between m q b) where
    pub sum : Between (n + m) (p + q) (a +ℤ b)
    sum = omega (arith, parts_add a b)

    pub difference : Between (n + q) (p + m) (a -ℤ b)
    difference = omega (arith, parts_add a (neg_ℤ b), parts_neg b)

-- the ranges' greatest magnitudes bound a product
size : {n p : ℕ} {a : ℤ} → Between n p a → nat_abs a ≤ max n p
size {n} {p} {a = pos a} h = omega (arith, le-max_right n p)
size {n} {p} {a = negsuc a} h = omega (arith, le-max_left n p)

times : (a b : ℤ) → Between (nat_abs a * nat_abs b) (nat_abs a * nat_abs b) (a *ℤ b)
times (pos a) (pos b) = omega arith
times (pos a) (negsuc b) = omega (arith, parts_neg (pos (a * suc b)))
times (negsuc a) (pos b) = omega (arith, parts_neg (pos (suc a * b)))
times (negsuc a) (negsuc b) = omega arith

pub product : {n p m q : ℕ} {a b : ℤ} → Between n p a → Between m q b → Between (max n p * max m q) (max n p * max m q) (a *ℤ b)
product {a} {b} h k = omega (arith, times a b, mul-le-mul (size h) (size k))

-- ---- a range within a signed width's: the test computes, so `tt` proves it

abbrev Small : Width → ℕ → ℕ → Type 0
Small w n p = T (leb n (2 ^ hbits w) && ltb p (2 ^ hbits w))

module _ (w : Width) {n p : ℕ} {z : ℤ} (s : Small w n p) (h : Between n p z) where
  small : (z : ℤ) → Between n p z → mag z < 2 ^ hbits w
  small (pos a) k = omega (arith, ltb→lt p (2 ^ hbits w) (and_r (leb n (2 ^ hbits w)) (ltb p (2 ^ hbits w)) s))
  small (negsuc a) k = omega (arith, leb→le n (2 ^ hbits w) (and_l (leb n (2 ^ hbits w)) (ltb p (2 ^ hbits w)) s))

  -- z fits the width
  pub fits_at : SFits w z
  fits_at = record { sfits = small z h }

  -- what holds z is read as z
  pub read_at : to_z w (of_z w z) ≡ z
  read_at = to_z-of_z w z fits_at

-- the same for an i32
module _ {n p : ℕ} {z : ℤ} (s : Small w32 n p) (h : Between n p z) where
  pub fits : SFits w32 z
  fits = fits_at w32 s h

  pub read : to_z w32 (of_z w32 z) ≡ z
  read = read_at w32 s h

  -- z as an argument of a call keeps its range
  pub passed : Between n p (to_z w32 (of_z w32 z))
  passed = rw read h

-- a call's result is read as it is: `back c.f.result c.f.ok`
pub back_at : (w : Width) (z : ℤ) → mag z < 2 ^ hbits w → to_z w (of_z w z) ≡ z
back_at w z h = to_z-of_z w z (record { sfits = h })

pub back : (z : ℤ) → mag z < 2 ^ 31 → to_z w32 (of_z w32 z) ≡ z
back = back_at w32

-- and is what the call ensures: `result_is c.f.ok c.f.ensures`
pub result_is : {r z : ℤ} → mag r < 2 ^ 31 → r ≡ z → to_z w32 (of_z w32 r) ≡ z
result_is {r} h e = back r h ∙ e

-- ---- an unsigned number as a signed one

pub signed : {n p : ℕ} → n ≤ p → Between 0 p (pos n)
signed h = omega arith

-- ---- tests

-- `z == 0`, which is asked of the bits
pub zero_test : (z : ℤ) → mag z < 2 ^ 31 → eqb (of_z w32 z) 0 ≡ eqb (nat_abs z) 0
zero_test (pos a) f = refl
zero_test (negsuc a) f = ne_eqb (of_z w32 (negsuc a)) 0 (λ e. omega arith) ∙ sym (ne_eqb (suc a) 0 (λ e. omega arith))

pub not_less : (a b : ℤ) → lt_z a b ≡ false → pos_part b + neg_part a ≤ pos_part a + neg_part b
not_less (pos a) (pos b) e = omega (arith, ltb-false a b e)
not_less (pos a) (negsuc b) e = omega arith
not_less (negsuc a) (pos b) e = absurd (subst T e tt)
not_less (negsuc a) (negsuc b) e = omega (arith, ltb-false b a e)

pub is_not_less : (a b : ℤ) → pos_part b + neg_part a ≤ pos_part a + neg_part b → lt_z a b ≡ false
is_not_less (pos a) (pos b) h = le-ltb a b (omega arith)
is_not_less (pos a) (negsuc b) h = refl
is_not_less (negsuc a) (pos b) h = absurd (omega arith)
is_not_less (negsuc a) (negsuc b) h = le-ltb b a (omega arith)

module _ (n p : ℕ) where
  abbrev low : ℤ
  low = neg_ℤ (pos n)

  -- a clamped number is in its range
  pub clamped_between : (z : ℤ) → Between n p (clamped low (pos p) z)
  unfolding clamped
  clamped_between z =
      by_test (Between n p) (lt_z z low)
      (λ e. omega (arith, parts_neg (pos n)))
      (λ e. by_test (Between n p) (lt_z (pos p) z)
      (λ f. omega arith)
      (λ f. ordered z (omega (arith, not_less (pos p) z f)) (omega (arith, parts_neg (pos n), not_less z low e))))

  -- a range and its test
  pub tested : (z : ℤ) → inside low (pos p) z ≡ true → Between n p z
  tested z e =
      let t = both_true (not (lt_z z low)) (not (lt_z (pos p) z)) e in
      ordered z (omega (arith, not_less (pos p) z (not-true _ t.1))) (omega (arith, parts_neg (pos n), not_less z low (not-true _ t.0)))

  pub testing : {z : ℤ} → Between n p z → inside low (pos p) z ≡ true
  testing {z} h = rw (is_not_less z low (omega (arith, parts_neg (pos n))), is_not_less (pos p) z (omega arith))

  -- the same for each number of a list
  pub all_tested : (zs : List ℤ) → all_inside low (pos p) zs ≡ true → (i : ℕ) → Between n p (get_or zs i (pos 0))
  all_tested [] e i = omega arith
  all_tested (z ∷ zs) e zero = tested z (both_true (inside low (pos p) z) (all_inside low (pos p) zs) e).0
  all_tested (z ∷ zs) e (suc i) = all_tested zs (both_true (inside low (pos p) z) (all_inside low (pos p) zs) e).1 i

  pub all_testing : (zs : List ℤ) → ((i : ℕ) → Between n p (get_or zs i (pos 0))) → all_inside low (pos p) zs ≡ true
  all_testing [] h = refl
  all_testing (z ∷ zs) h = rw (testing (h 0)) (all_testing zs (λ i. h (suc i)))
