-- Bytes, words and windows of an image, and the fields inside a window.
-- Assumes nothing.
use mathlib.Core.Path.{◌≡◌, refl, ap, ◌∙◌}
use mathlib.Core.List.{List, [], ◌∷◌}
use Prim.Native.Nat.{ℕ, zero, suc, ◌+◌, ◌*◌, ◌-◌, ◌/◌, ◌%◌, ◌^◌, ◌≤◌, ◌<◌}
use native.Mathlib.Nat.{one-mul, mod-lt}
use native.Mathlib.Numerals.{add-one}
use native.Mathlib.Omega.{arith}
use lib.Dec.{lit<}
use lib.ListN.{get_or}
use lib.Pow.{pow_pos, pow_mono, shr-shr, mod-pow-add, shl_exact}
use mir.Syntax.{w8, w32}
use mir.Val.{Fits}
use Rattle.rom.specs.Bits.{bit, field}
use Rattle.std.specs.Int.{from_be_bytes, from_le_bytes, swap_bytes}
use Rattle.std.proofs.lemmas.Nat.{le_bytes_4}
use Rattle.rom.specs.Window.{Window}
use Rattle.rom.proofs.Fields.{field_lt, field_split, field_inside}

-- bit k of byte n
bit_byte : (s : List ℕ) (n k : ℕ) → k < 8 → bit s (8 * n + k) ≡ get_or s n 0 / 2 ^ (7 - k) % 2
unfolding bit
bit_byte s n k h =
    let d : (8 * n + k) / 8 ≡ n = omega arith in
    let m : (8 * n + k) % 8 ≡ k = omega arith in
    rw (d, m)

-- the first w bits of byte n
field_byte : (s : List ℕ) (n w : ℕ) → w ≤ 8 → field s (8 * n) w ≡ get_or s n 0 / 2 ^ (8 - w) % 2 ^ w
unfolding field
field_byte s n zero h = omega arith
field_byte s n (suc w) h =
    let x = get_or s n 0 in
    let e : 8 - w ≡ 7 - w + 1 = omega arith in
    let d : 8 - suc w ≡ 7 - w = omega arith in
    rw (d, bit_byte s n w (omega arith), field_byte s n w (omega arith), e, ← shr-shr x (7 - w) 1, ← add-one w)
    (omega (arith, mod-pow-add (x / 2 ^ (7 - w)) w 1))

-- s is a list of bytes
module _ (s : List ℕ) (bytes : (i : ℕ) → Fits w8 (get_or s i 0)) where
  -- the field of byte n
  byte_is : (n : ℕ) → field s (8 * n) 8 ≡ get_or s n 0
  byte_is n = omega (arith, bytes n, field_byte s n 8 (omega arith))

  -- byte n and the w bits from byte m on, the next
  bytes_are : (n m w : ℕ) → m ≡ n + 1 → field s (8 * n) (8 + w) ≡ get_or s n 0 * 2 ^ w + field s (8 * m) w
  bytes_are n m w h =
      let d : 8 * n + 8 ≡ 8 * m = omega arith in
      rw (field_split s (8 * n) 8 w, byte_is n, d)

  -- the word of four bytes
  pub word_is : (n : ℕ) → 16777216 * get_or s n 0 + 65536 * get_or s (n + 1) 0 + 256 * get_or s (n + 2) 0 + get_or s (n + 3) 0 ≡ field s (8 * n) 32
  word_is n =
      omega (
        arith,
        bytes_are n (n + 1) 24 (omega arith),
        bytes_are (n + 1) (n + 2) 16 (omega arith),
        bytes_are (n + 2) (n + 3) 8 (omega arith),
        byte_is (n + 3),
      )

  -- the same as the library has it, whose four bytes are those of s
  pub be_word_is : (n : ℕ) (a b c d : ℕ) → a ≡ get_or s n 0 → b ≡ get_or s (n + 1) 0 → c ≡ get_or s (n + 2) 0 → d ≡ get_or s (n + 3) 0
      → from_be_bytes w32 (a ∷ b ∷ c ∷ d ∷ []) ≡ field s (8 * n) 32
  be_word_is n a b c d ea eb ec ed = omega (arith, word_is n, ea, eb, ec, ed)

  -- read the other way round and swapped
  pub swapped_is : (n : ℕ) {x : ℕ} → x ≡ from_le_bytes w32 (get_or s n 0 ∷ get_or s (n + 1) 0 ∷ get_or s (n + 2) 0 ∷ get_or s (n + 3) 0 ∷ [])
      → swap_bytes w32 x ≡ field s (8 * n) 32
  swapped_is n {x} e =
      let four : List ℕ = get_or s n 0 ∷ get_or s (n + 1) 0 ∷ get_or s (n + 2) 0 ∷ get_or s (n + 3) 0 ∷ [] in
      ap (λ (b : List ℕ). from_be_bytes w32 b) (le_bytes_4 four x refl (below n) e) ∙ be_word_is n _ _ _ _ refl refl refl refl
    where
      below : (n : ℕ) (i : ℕ) → get_or (get_or s n 0 ∷ get_or s (n + 1) 0 ∷ get_or s (n + 2) 0 ∷ get_or s (n + 3) 0 ∷ []) i 0 < 256
      below n zero = omega (arith, bytes n)
      below n (suc zero) = omega (arith, bytes (n + 1))
      below n (suc (suc zero)) = omega (arith, bytes (n + 2))
      below n (suc (suc (suc zero))) = omega (arith, bytes (n + 3))
      below n (suc (suc (suc (suc i)))) = omega arith

module _ (s : List ℕ) where
  -- a word fits its 32 bits
  pub word_fits : (at : ℕ) {x : ℕ} → x ≡ field s at 32 → x < 2 ^ 32
  word_fits at e = rw e (field_lt s at 32)

  -- two words, one after the other
  pub words_are : (n : ℕ) {h l : ℕ} → h ≡ field s (8 * n) 32 → l ≡ field s (8 * (n + 4)) 32 → 2 ^ 32 * h + l ≡ field s (8 * n) 64
  words_are n eh el =
      let d : 8 * n + 32 ≡ 8 * (n + 4) = omega arith in
      omega (arith, rw d at (field_split s (8 * n) 32 32))

  -- the window at a bit stands in the w + 7 bits from its first byte on
  pub window_is : (w at : ℕ) {x : ℕ} → x ≡ field s (8 * (at / 8)) (w + 7) → Window w s at (x / 2 ^ (7 - at % 8) % 2 ^ w)
  window_is w at e =
      let l : at % 8 + w + (7 - at % 8) ≡ w + 7 = omega arith in
      let p : 8 * (at / 8) + at % 8 ≡ at = omega arith in
      rw e (rw (l, p) at (field_inside s (8 * (at / 8)) (at % 8) w (7 - at % 8)))

  -- a field inside a window of b bits
  pub part_is : (b at k w : ℕ) {x : ℕ} → Window b s at x → k + w ≤ b → x / 2 ^ (b - k - w) % 2 ^ w ≡ field s (at + k) w
  part_is b at k w e h =
      let l : k + w + (b - k - w) ≡ b = omega arith in
      rw e (rw l at (field_inside s at k w (b - k - w)))

-- at most eight bits fit a byte
pub part_fits : (x : ℕ) {w : ℕ} → w ≤ 8 → x % 2 ^ w < 2 ^ 8
part_fits x {w} h = omega (arith, mod-lt x (pow_pos w), pow_mono h)

-- the divisor that leaves w bits
pub one_shifted : (w : ℕ) → w ≤ 8 → (1 * 2 ^ w) % 2 ^ 64 ≡ 2 ^ w
one_shifted w h = rw (shl_exact {a = 1} 1 w 64 (lit< tt) (omega arith), one-mul)

-- a word without its first k bits, moved up by as many, has what follows them at its top
pub lifted : (x k : ℕ) → x < 2 ^ 32 → k ≤ 7 → x * 2 ^ k % 2 ^ 64 % 2 ^ 32 / 2 ^ 7 ≡ x / 2 ^ (7 - k) % 2 ^ 25
lifted x zero h l = omega arith
lifted x (suc zero) h l = omega arith
lifted x (suc (suc zero)) h l = omega arith
lifted x (suc (suc (suc zero))) h l = omega arith
lifted x (suc (suc (suc (suc zero)))) h l = omega arith
lifted x (suc (suc (suc (suc (suc zero))))) h l = omega arith
lifted x (suc (suc (suc (suc (suc (suc zero)))))) h l = omega arith
lifted x (suc (suc (suc (suc (suc (suc (suc zero))))))) h l = omega arith
lifted x (suc (suc (suc (suc (suc (suc (suc (suc k)))))))) h l = absurd (omega arith)
