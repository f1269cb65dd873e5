-- What the image's bits begin with, against its fields: one field of any width, and a list of fields.
-- Assumes nothing.
use mathlib.Core.Path.{◌≡◌, refl}
use mathlib.Core.List.{List, [], ◌∷◌, ◌++◌}
use Prim.Native.Nat.{ℕ, zero, suc, ◌+◌, ◌*◌, ◌/◌, ◌%◌, ◌^◌, ◌≤◌, ◌<◌}
use native.Mathlib.Nat.{pow-suc, add-zero}
use native.Mathlib.Omega.{arith}
use lib.ListN.{length, length-append}
use Rattle.rom.specs.Bits.{bit, field, digits, Begins}
use Rattle.rom.specs.Frames.{encoded, total_width, Fit}
use Rattle.rom.proofs.Fields.{bit_lt, field_lt}

pub length_digits : (w x : ℕ) → length (digits w x) ≡ w
unfolding digits
length_digits zero x = refl
length_digits (suc w) x = omega (arith, length-append (digits w (x / 2)) (x % 2 ∷ []), length_digits w (x / 2))

pub length_encoded : (fs : List (ℕ × ℕ)) → length (encoded fs) ≡ total_width fs
length_encoded [] = refl
length_encoded (f ∷ fs) =
    omega (arith, length-append (digits f.0 f.1) (encoded fs), length_digits f.0 f.1, length_encoded fs)

module _ (s : List ℕ) where
  pub begins_room : (at : ℕ) (bs : List ℕ) → Begins s at bs → at + length bs ≤ 8 * length s
  begins_room at [] h = omega arith
  begins_room at (b ∷ bs) h = omega (arith, begins_room (at + 1) bs h.1)

  pub begins_split : (at : ℕ) (xs ys : List ℕ) → Begins s at (xs ++ ys) → Begins s at xs × Begins s (at + length xs) ys
  begins_split at [] ys h = (omega (arith, begins_room at ys h), rw add-zero h)
  begins_split at (x ∷ xs) ys h =
      let r = begins_split (at + 1) xs ys h.1 in
      let e : at + 1 + length xs ≡ at + suc (length xs) = omega arith in
      ((h.0, r.0), rw e at r.1)

  pub begins_join : (at : ℕ) (xs ys : List ℕ) → Begins s at xs → Begins s (at + length xs) ys → Begins s at (xs ++ ys)
  begins_join at [] ys h g = rw add-zero at g
  begins_join at (x ∷ xs) ys h g =
      let e : at + suc (length xs) ≡ at + 1 + length xs = omega arith in
      (h.0, begins_join (at + 1) xs ys h.1 (rw e at g))

  -- the image's bits begin with the w digits of x: its field of w bits is x
  pub digits_field : (at w x : ℕ) → x < 2 ^ w → Begins s at (digits w x) → field s at w ≡ x
  unfolding digits field
  digits_field at zero x l h = omega arith
  digits_field at (suc w) x l h =
      let r = begins_split at (digits w (x / 2)) (x % 2 ∷ []) h in
      let b : bit s (at + w) ≡ x % 2 = rw length_digits at r.1.0 in
      omega (arith, b, digits_field at w (x / 2) (omega (arith, pow-suc 2 w)) r.0)

  -- and they begin with its digits
  pub field_digits : (at w : ℕ) → at + w ≤ 8 * length s → Begins s at (digits w (field s at w))
  unfolding digits field
  field_digits at zero h = omega arith
  field_digits at (suc w) h =
      let q : (2 * field s at w + bit s (at + w)) / 2 ≡ field s at w = omega (arith, bit_lt s (at + w)) in
      let r : (2 * field s at w + bit s (at + w)) % 2 ≡ bit s (at + w) = omega (arith, bit_lt s (at + w)) in
      rw (q, r)
      (begins_join at (digits w (field s at w)) (bit s (at + w) ∷ []) (field_digits at w (omega arith))
      (rw length_digits (refl, omega arith)))

  -- the fields from bit b + o on have the values of a list, and end within the image
  abbrev pub Reads : ℕ → ℕ → List (ℕ × ℕ) → Type 0
  Reads b o [] = b + o ≤ 8 * length s
  Reads b o (f ∷ fs) = (field s (b + o) f.0 ≡ f.1) × Reads b (o + f.0) fs

  reads_room : (b o : ℕ) (fs : List (ℕ × ℕ)) → Reads b o fs → b + o + total_width fs ≤ 8 * length s
  reads_room b o [] h = omega arith
  reads_room b o (f ∷ fs) h = omega (arith, reads_room b (o + f.0) fs h.1)

  pub reads : (b o : ℕ) (fs : List (ℕ × ℕ)) → Fit fs → Begins s (b + o) (encoded fs) → Reads b o fs
  reads b o [] l h = h
  reads b o (f ∷ fs) l h =
      let r = begins_split (b + o) (digits f.0 f.1) (encoded fs) h in
      let e : b + o + length (digits f.0 f.1) ≡ b + (o + f.0) = omega (arith, length_digits f.0 f.1) in
      (digits_field (b + o) f.0 f.1 l.0 r.0, reads b (o + f.0) fs l.1 (rw e at r.1))

  pub begins : (b o : ℕ) (fs : List (ℕ × ℕ)) → Reads b o fs → Fit fs × Begins s (b + o) (encoded fs)
  begins b o [] h = (tt, h)
  begins b o (f ∷ fs) h =
      let r = begins b (o + f.0) fs h.1 in
      let e : b + (o + f.0) ≡ b + o + length (digits f.0 f.1) = omega (arith, length_digits f.0 f.1) in
      let d : Begins s (b + o) (digits f.0 f.1) =
      rw h.0 at (field_digits (b + o) f.0 (omega (arith, reads_room b (o + f.0) fs h.1))) in
      ((rw h.0 at (field_lt s (b + o) f.0), r.0), begins_join (b + o) (digits f.0 f.1) (encoded fs) d (rw e at r.1))

  -- the same fields, counted from another bit
  pub rebase : (b o b' o' : ℕ) (fs : List (ℕ × ℕ)) → b + o ≡ b' + o' → Reads b o fs → Reads b' o' fs
  rebase b o b' o' fs e h = let r = begins b o fs h in reads b' o' fs r.0 (rw e at r.1)
