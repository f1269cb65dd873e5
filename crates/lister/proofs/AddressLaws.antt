-- Reading an address, one character after another.
-- Assumes nothing.
use Rattle.std.proofs.Common.{◌≡◌, ℕ, suc, ◌+◌, ◌*◌, ◌-◌, ◌≤◌, ◌<◌, min, true, false, List, [], ◌∷◌, ◌&&◌, length, drop, get_or, refl, sym, add-one, arith}
use mathlib.Core.Bool.{and-true, and-false}
use borrow.Author.Tests.{lt-ltb, le-ltb, ltb-true, ltb-false}
use lib.Dec.{ltb}
use Rattle.std.proofs.Math.Seq.{drop-cons, drop-length}
use Rattle.base.proofs.Booleans.{both_true, either_way, by_test}
use Rattle.rom.specs.Bits.{image_limit}
use Rattle.lister.specs.Address.{is_digit, all_digits, number_after, address_after, address_of}

-- more digits make no smaller number
number_grows : (n : ℕ) (cs : List ℕ) → n ≤ number_after n cs
unfolding number_after
number_grows n [] = omega arith
number_grows n (c ∷ cs) = omega (arith, number_grows (10 * n + (c - 48)) cs)

-- past every image it stays there
address_past : (n : ℕ) (cs : List ℕ) → image_limit ≤ n → address_after n cs ≡ image_limit
unfolding address_after
address_past n cs h = rw (le-ltb (number_after n cs) image_limit (omega (arith, number_grows n cs)))

-- and nothing lies further
pub address_most : (n : ℕ) (cs : List ℕ) → address_after n cs ≤ image_limit
unfolding address_after
address_most n cs =
    by_test (λ m. m ≤ image_limit) (ltb (number_after n cs) image_limit && all_digits cs)
    (λ e. omega (arith, ltb-true (number_after n cs) image_limit (both_true _ _ e).0)) (λ e. omega arith)

pub address_end : (n : ℕ) → n ≤ image_limit → address_after n [] ≡ n
unfolding address_after number_after all_digits
address_end n h =
    rw and-true (by_test (λ m. m ≡ n) (ltb n image_limit) (λ e. refl) (λ e. omega (arith, ltb-false n image_limit e)))

module _ (n c : ℕ) where
  -- one more character, which is no digit
  pub address_no_digit : is_digit c ≡ false → image_limit ≡ address_after n (c ∷ [])
  unfolding address_after all_digits
  address_no_digit h = rw (h, and-false)

  -- one more digit
  pub address_digit : is_digit c ≡ true → min (10 * n + (c - 48)) image_limit ≡ address_after n (c ∷ [])
  unfolding address_after all_digits number_after
  address_digit h =
      let m = 10 * n + (c - 48) in
      rw (h, and-true)
      (by_test (λ v. min m image_limit ≡ v) (ltb m image_limit) (λ e. omega (arith, ltb-true m image_limit e)) (λ e. omega (arith, ltb-false m image_limit e)))

-- the first character is read, then the others
pub address_more : (n c : ℕ) (cs : List ℕ) → address_after n (c ∷ cs) ≡ address_after (address_after n (c ∷ [])) cs
unfolding address_after number_after all_digits
address_more n c cs =
    let m = 10 * n + (c - 48) in
    either_way (ltb m image_limit)
    (λ e. either_way (is_digit c) (λ f. rw (e, f)) (λ f. rw (e, f, address_past image_limit cs (omega arith), and-false)))
    (λ e.
    let l = ltb-false m image_limit e in
    rw (e, address_past image_limit cs (omega arith), le-ltb (number_after m cs) image_limit (omega (arith, number_grows m cs))))

-- i characters of the text are read and give the address n
pub record Reading (text : List ℕ) (n i : ℕ) : Type 0 where
  pub passed : i ≤ length text
  pub within : n ≤ image_limit
  pub rest : address_after n (drop i text) ≡ address_after 0 text

pub reading_none : (text : List ℕ) → Reading text 0 0
reading_none text = record { passed = omega arith; within = omega arith; rest = refl }

pub reading_more : {text : List ℕ} {n i : ℕ} → Reading text n i → i < length text → {m : ℕ} → m ≡ address_after n (get_or text i 0 ∷ [])
    → Reading text m (i + 1)
reading_more {text} {n} {i} r h {m} e = record {
  passed = omega arith;
  within = rw e (address_most n (get_or text i 0 ∷ []));
  rest = rw (e, add-one, ← address_more n (get_or text i 0) (drop (suc i) text), ← drop-cons text i 0 h) r.rest;
}

pub reading_done : {text : List ℕ} {n i : ℕ} → Reading text n i → (length text ≡ 0 → ⊥) → length text ≤ i → n ≡ address_of text
unfolding address_of
reading_done {text} {n} {i} r h l =
    let e : i ≡ length text = omega (arith, r.passed) in
    rw (lt-ltb 0 (length text) (omega arith), ← r.rest, e, drop-length text) (sym (address_end n r.within))

-- an empty text
pub address_none : (text : List ℕ) → length text ≡ 0 → image_limit ≡ address_of text
unfolding address_of
address_none text e = rw e
