-- Decimal digits, read as an address, give their number.
-- Assumes nothing.
use mathlib.Core.Path.{◌≡◌, refl}
use mathlib.Core.Bool.{true, cond}
use mathlib.Core.List.{List, [], ◌∷◌, ◌++◌}
use Prim.Native.Nat.{ℕ, zero, suc, ◌+◌, ◌*◌, ◌-◌, ◌/◌, ◌%◌, ◌<◌}
use native.Mathlib.Omega.{arith}
use borrow.Author.Tests.{lt-ltb, le-leb, ltb-true, ltb-false}
use lib.Dec.{ltb}
use lib.ListN.{length, length-append}
use Rattle.base.proofs.Booleans.{both_true, and_true, either_way}
use Rattle.rom.specs.Bits.{image_limit}
use Rattle.lister.specs.Text.{decimal}
use Rattle.lister.specs.Address.{is_digit, all_digits, number_after, address_after, address_of}
use Rattle.lister.proofs.Decimals.{decimal_one, decimal_more}

-- a last digit
number_last : (n : ℕ) (cs : List ℕ) (c : ℕ) → number_after n (cs ++ (c ∷ [])) ≡ 10 * number_after n cs + (c - 48)
unfolding number_after
number_last n [] c = refl
number_last n (x ∷ cs) c = number_last (10 * n + (x - 48)) cs c

digits_last : (cs : List ℕ) (c : ℕ) → all_digits cs ≡ true → is_digit c ≡ true → all_digits (cs ++ (c ∷ [])) ≡ true
unfolding all_digits
digits_last [] c h d = rw d
digits_last (x ∷ cs) c h d = let t = both_true (is_digit x) (all_digits cs) h in rw t.0 (digits_last cs c t.1 d)

-- the text is the digits of n, one or more
record Spells (text : List ℕ) (n : ℕ) : Type 0 where
  some : 0 < length text
  digits : all_digits text ≡ true
  number : number_after 0 text ≡ n

decimal_spells : (k n : ℕ) → n < k → Spells (decimal n) n
unfolding number_after all_digits
decimal_spells zero n h = absurd (omega arith)
decimal_spells (suc k) n h =
    let c = 48 + n % 10 in
    let d : is_digit c ≡ true = rw (le-leb 48 c (omega arith), le-leb c 57 (omega arith)) in
    either_way (ltb n 10)
    (λ e.
    let l = ltb-true n 10 e in
    rw (decimal_one n l) (record { some = omega arith; digits = rw d; number = omega arith }))
    (λ e.
    let l = ltb-false n 10 e in
    let t = decimal_spells k (n / 10) (omega arith) in
    rw (decimal_more n l)
    (record {
      some = simp length-append (omega arith);
      digits = digits_last (decimal (n / 10)) c t.digits d;
      number = rw (number_last 0 (decimal (n / 10)) c, t.number) (omega arith);
    }))

pub address_of_decimal : (n : ℕ) → address_of (decimal n) ≡ cond (ltb n image_limit) n image_limit
unfolding address_of address_after
address_of_decimal n =
    let t = decimal_spells (suc n) n (omega arith) in
    rw (lt-ltb 0 (length (decimal n)) t.some, t.number, t.digits, and_true (ltb n image_limit))
