-- The bits of all bytes, and that an image's bits from a bit on are those that are left of them.
-- Assumes nothing.
use mathlib.Core.Path.{◌≡◌, refl, ◌∙◌}
use mathlib.Core.Logic.{◌↔◌}
use mathlib.Core.List.{List, [], ◌∷◌, IsPrefix}
use Prim.Native.Nat.{ℕ, ◌+◌, ◌*◌, ◌/◌, ◌%◌, ◌≤◌, suc}
use native.Mathlib.Omega.{arith}
use lib.ListN.{length, take, drop, length-append, length-drop, take-append-drop}
use lib.Seq.{length-take-le}
use Rattle.rom.specs.Bits.{digits, bit, bits_of_bytes, Begins}
use Rattle.rom.proofs.Encoding.{length_digits, begins_room, begins_split, begins_join}

pub length_bits : (bs : List ℕ) → length (bits_of_bytes bs) ≡ 8 * length bs
length_bits [] = refl
length_bits (b ∷ bs) = omega (arith, length-append (digits 8 b) (bits_of_bytes bs), length_digits 8 b, length_bits bs)

module _ (b : ℕ) (s : List ℕ) where
  first_byte : Begins (b ∷ s) 0 (digits 8 b)
  unfolding digits bit
  first_byte = omega arith

  -- a byte in front moves each bit by eight
  bit_after : (i : ℕ) → bit (b ∷ s) (i + 8) ≡ bit s i
  unfolding bit
  bit_after i =
      let d : (i + 8) / 8 ≡ suc (i / 8) = omega arith in
      let r : (i + 8) % 8 ≡ i % 8 = omega arith in
      rw (d, r)

  begins_after : (at : ℕ) (bs : List ℕ) → Begins s at bs → Begins (b ∷ s) (at + 8) bs
  begins_after at [] h = omega arith
  begins_after at (x ∷ xs) h =
      let e : at + 1 + 8 ≡ at + 8 + 1 = omega arith in
      (bit_after at ∙ h.0, rw e at (begins_after (at + 1) xs h.1))

all_begin : (s : List ℕ) → Begins s 0 (bits_of_bytes s)
all_begin [] = omega arith
all_begin (b ∷ s) =
    begins_join (b ∷ s) 0 (digits 8 b) (bits_of_bytes s) (first_byte b s)
    (rw (length_digits 8 b) (begins_after b s 0 (bits_of_bytes s) (all_begin s)))

module _ (s : List ℕ) where
  -- of two lists that the bits begin with, the shorter is a prefix of the longer
  begins_both : (at : ℕ) (xs ys : List ℕ) → Begins s at xs → Begins s at ys → length xs ≤ length ys → IsPrefix xs ys
  begins_both at [] ys p q l = (ys, refl)
  begins_both at (x ∷ xs) [] p q l = absurd (omega arith)
  begins_both at (x ∷ xs) (y ∷ ys) p q l = let r = begins_both (at + 1) xs ys p.1 q.1 (omega arith) in (r.0, cc)

  module _ (at : ℕ) (h : at ≤ 8 * length s) where
    rest_begins : Begins s at (drop at (bits_of_bytes s))
    rest_begins =
        let bits = bits_of_bytes s in
        let l : 0 + length (take at bits) ≡ at = omega (arith, length-take-le at bits (omega (arith, length_bits s))) in
        rw l at (begins_split s 0 (take at bits) (drop at bits) (rw take-append-drop (all_begin s))).1

    pub begins_is : (bs : List ℕ) → Begins s at bs ↔ IsPrefix bs (drop at (bits_of_bytes s))
    begins_is bs = (
      λ b. begins_both at bs _ b rest_begins (omega (arith, begins_room s at bs b, length-drop at (bits_of_bytes s), length_bits s)),
      λ r. (begins_split s at bs r.0 (rw r.1 rest_begins)).0,
    )
