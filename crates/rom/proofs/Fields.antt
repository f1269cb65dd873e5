-- Laws of bits and fields, for every width.
-- Assumes nothing.
use mathlib.Core.Path.{◌≡◌}
use mathlib.Core.List.{List}
use Prim.Native.Nat.{ℕ, zero, suc, ◌+◌, ◌*◌, ◌/◌, ◌%◌, ◌^◌, ◌≤◌, ◌<◌}
use native.Mathlib.Nat.{pow-suc, add-zero, add-suc, mul_assoc, zero-div}
use native.Mathlib.Omega.{arith}
use lib.ListN.{length, get_or-eq_default}
use lib.Pow.{high, low}
use Rattle.rom.specs.Bits.{bit, field}

pub bit_lt : (s : List ℕ) (i : ℕ) → bit s i < 2
unfolding bit
bit_lt s i = omega arith

pub field_lt : (s : List ℕ) (at w : ℕ) → field s at w < 2 ^ w
unfolding field
field_lt s at zero = omega arith
field_lt s at (suc w) = omega (arith, pow-suc 2 w, field_lt s at w, bit_lt s (at + w))

-- past the end a field is 0
pub field_none : (s : List ℕ) (at w : ℕ) → 8 * length s ≤ at → field s at w ≡ 0
unfolding bit field
field_none s at zero h = omega arith
field_none s at (suc w) h =
    let l : length s ≤ (at + w) / 8 = omega arith in
    rw (field_none s at w h, get_or-eq_default s 0 l, zero-div)

-- a field of a + b bits is its first a bits, and the b bits after them
pub field_split : (s : List ℕ) (at a b : ℕ) → field s at (a + b) ≡ field s at a * 2 ^ b + field s (at + a) b
unfolding field
field_split s at a zero = rw (add-zero a) (omega arith)
field_split s at a (suc b) =
    let p : field s at a * 2 ^ suc b ≡ field s at a * 2 ^ b * 2 = rw (pow-suc, mul_assoc) in
    let e : at + (a + b) ≡ at + a + b = omega arith in
    rw (add-suc a b, e) (omega (arith, p, field_split s at a b))

-- the first a bits of a field
pub field_first : (s : List ℕ) (at a b : ℕ) → field s at (a + b) / 2 ^ b ≡ field s at a
field_first s at a b = rw (field_split s at a b) (high (field s at a) b (field_lt s (at + a) b))

-- its last b bits
field_last : (s : List ℕ) (at a b : ℕ) → field s at (a + b) % 2 ^ b ≡ field s (at + a) b
field_last s at a b = rw (field_split s at a b) (low (field s at a) b (field_lt s (at + a) b))

-- the w bits after its first a and before its last b
pub field_inside : (s : List ℕ) (at a w b : ℕ) → field s at (a + w + b) / 2 ^ b % 2 ^ w ≡ field s (at + a) w
field_inside s at a w b = rw (field_first s at (a + w) b) (field_last s at a w)
