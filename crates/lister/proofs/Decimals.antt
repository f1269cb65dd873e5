-- Laws of decimal digits.
-- Assumes nothing.
use mathlib.Core.Path.{◌≡◌, ap}
use mathlib.Core.List.{[], ◌∷◌, ◌++◌}
use Prim.Native.Nat.{ℕ, zero, suc, ◌+◌, ◌/◌, ◌%◌, ◌^◌, ◌≤◌, ◌<◌}
use native.Mathlib.Nat.{pow-suc}
use native.Mathlib.Omega.{arith}
use borrow.Author.Tests.{lt-ltb, le-ltb, ltb-false}
use lib.Dec.{ltb}
use lib.ListN.{length, length-append}
use Rattle.std.specs.Fmt.{decimal as printed}
use Rattle.std.proofs.lemmas.Fmt.{decimal_by_steps}
use Rattle.base.proofs.Booleans.{either_way}
use Rattle.lister.specs.Text.{digits_of, decimal}

-- more than n + 1 digits are not needed
digits_enough : (j k n : ℕ) → n < j → n < k → digits_of j n ≡ digits_of k n
unfolding digits_of
digits_enough zero k n h g = absurd (omega arith)
digits_enough (suc j) zero n h g = absurd (omega arith)
digits_enough (suc j) (suc k) n h g =
    either_way (ltb n 10) (λ e. rw e)
    (λ e. let l = ltb-false n 10 e in rw (e, digits_enough j k (n / 10) (omega arith) (omega arith)))

pub decimal_one : (n : ℕ) → n < 10 → decimal n ≡ (48 + n % 10) ∷ []
unfolding decimal digits_of
decimal_one n h = rw (lt-ltb n 10 h)

pub decimal_more : (n : ℕ) → 10 ≤ n → decimal n ≡ decimal (n / 10) ++ ((48 + n % 10) ∷ [])
unfolding decimal digits_of
decimal_more n h = rw (le-ltb n 10 h, digits_enough n (suc (n / 10)) (n / 10) (omega arith) (omega arith))

digits_length : (k j n : ℕ) → n < 10 ^ suc j → length (digits_of k n) ≤ suc j
unfolding digits_of
digits_length zero j n h = omega arith
digits_length (suc k) zero n h = rw (lt-ltb n 10 (omega arith)) (omega arith)
digits_length (suc k) (suc j) n h =
    either_way (ltb n 10) (λ e. rw e (omega arith))
    (λ e. rw (e, length-append) (omega (arith, digits_length k j (n / 10) (omega (arith, pow-suc 10 (suc j))))))

-- a number below 10 ^ (j + 1) has at most j + 1 digits
pub decimal_length : (j n : ℕ) → n < 10 ^ suc j → length (decimal n) ≤ suc j
unfolding decimal
decimal_length j n h = digits_length (suc n) j n h

-- the library's digits are the same
pub decimal_printed : (n : ℕ) → n < 2 ^ 64 → decimal n ≡ printed n
decimal_printed =
    decimal_by_steps (λ n ds. decimal n ≡ ds) (λ n h. rw (decimal_one n h) (ap (λ c. c ∷ []) (omega arith))) (λ n ds h e. rw (decimal_more n h, e))
