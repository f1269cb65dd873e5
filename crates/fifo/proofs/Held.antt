-- What the FIFO holds, as bits, and the frame that the reader takes from it, against them.
-- Assumes nothing.
use mathlib.Core.Path.{◌≡◌, refl, sym, ap, ◌∙◌}
use mathlib.Core.List.{List, [], ◌∷◌, ◌++◌, append_assoc, append-nil}
use Prim.Native.Nat.{ℕ, ◌+◌, ◌*◌, ◌-◌, ◌/◌, ◌%◌, ◌<◌, ◌≤◌}
use native.Mathlib.Numerals.{add-one}
use native.Mathlib.Omega.{arith}
use lib.ListN.{length, take, drop, replicate, length-append, length-take, length-drop, length-reverse}
use lib.Seq.{take-suc-set, take-add, take-append-le, drop-append-le, drop-append-add, drop-drop, length-take-le}
use Rattle.rom.specs.Bits.{digits, bits_of_bytes}
use Rattle.rom.specs.Items.{ItemAnswer, whole, cut}
use Rattle.base.specs.declared.refusal.Shortfall.{Shortfall}
use Rattle.rom.proofs.AllBits.{begins_is}
use Rattle.rom.proofs.Encoding.{length_digits}
use Rattle.rom.proofs.Prefixed.{prefixed_cut, prefixed_law}
use Rattle.fifo.specs.declared.BitOrder.{BitOrder}
use Rattle.fifo.specs.declared.BitOrder.TheVariants.{LeastFirst, MostFirst}
use Rattle.fifo.specs.declared.Fifo.{Fifo}
use Rattle.fifo.specs.Buffer.{bits_of_byte, bits_leaving, held_bits, read_bytes, held_bytes}
use Rattle.fifo.specs.Laws.{Fits, HeldLength, HeldAppended, HeldUsed, HeldFrame, HeldCut}
use Rattle.fifo.proofs.Orders.{read_bits, take_read, length_read}

pub length_byte : (o : BitOrder) (b : ℕ) → length (bits_of_byte o b) ≡ 8
length_byte MostFirst b = length_digits 8 b
length_byte LeastFirst b = length-reverse (digits 8 b) ∙ length_digits 8 b

module _ (o : BitOrder) where
  pub length_leaving : (bs : List ℕ) → length (bits_leaving o bs) ≡ 8 * length bs
  length_leaving [] = refl
  length_leaving (b ∷ bs) = omega (arith, length-append (bits_of_byte o b) (bits_leaving o bs), length_byte o b, length_leaving bs)

  leaving_append : (xs ys : List ℕ) → bits_leaving o (xs ++ ys) ≡ bits_leaving o xs ++ bits_leaving o ys
  leaving_append [] ys = refl
  leaving_append (x ∷ xs) ys = rw (leaving_append xs ys) (rw append_assoc)

pub within : (f : Fifo) → Fits f → f.level ≤ length f.bytes
within f h = omega (arith, h.size, h.level)

length_level : (f : Fifo) → f.level ≤ length f.bytes → length (bits_leaving f.order (take f.level f.bytes)) ≡ 8 * f.level
length_level f h = simp (length_leaving, length-take) (omega arith)

pub held_length : HeldLength
held_length f h = simp length-drop (omega (arith, length_level f (within f h)))

pub held_appended : HeldAppended
held_appended f b h l =
    let room : f.level < length f.bytes = omega (arith, h.size) in
    let used : f.used_bits ≤ length (bits_leaving f.order (take f.level f.bytes)) = omega (arith, h.used, length_level f (within f h)) in
    rw (add-one, take-suc-set f.bytes f.level b room, leaving_append) (rw (drop-append-le, append-nil))

pub held_used : HeldUsed
held_used f n h l =
    let r = within f h in
    let b = (f.used_bits + n) / 8 in
    let e = (f.used_bits + n) % 8 in
    let out = bits_leaving f.order in
    let gone = out (take b f.bytes) in
    let rest = out (take (f.level - b) (drop b f.bytes)) in
    let all : b + (f.level - b) ≡ f.level = omega (arith, held_length f h, r, h.used) in
    let size : length gone ≡ 8 * b = length_leaving f.order (take b f.bytes) ∙ ap (λ (j : ℕ). 8 * j) (length-take-le b f.bytes (omega (arith, held_length f h, r, h.used))) in
    let split : bits_leaving f.order (take f.level f.bytes) ≡ gone ++ rest =
    ap (λ (j : ℕ). out (take j f.bytes)) (sym all) ∙ ap out (take-add b (f.level - b) f.bytes) ∙ leaving_append f.order (take b f.bytes) _ in
    let bits : length gone + e ≡ f.used_bits + n = omega (arith, size) in
    ap (λ (l : List ℕ). drop e (out l)) (take-append-le (f.level - b) (drop b f.bytes) (replicate b 0) (simp length-drop (omega (arith, r))))
    ∙ sym (drop-append-add gone rest e)
    ∙ ap (λ (j : ℕ). drop j (gone ++ rest)) bits
    ∙ ap (drop (f.used_bits + n)) (sym split)
    ∙ sym (drop-drop n f.used_bits (bits_leaving f.order (take f.level f.bytes)))

-- ---- the frame

pub held_frame : HeldFrame
held_frame Q P f i n h =
    let s = held_bytes f in
    let room : f.used_bits ≤ 8 * length s =
    omega (arith, length-take-le f.level (read_bytes f.order f.bytes) (omega (arith, within f h, length_read f.order f.bytes)), h.used) in
    let bits : drop f.used_bits (bits_of_bytes s) ≡ held_bits f =
    ap (λ (l : List ℕ). drop f.used_bits (bits_of_bytes l)) (take_read f.order f.level f.bytes)
    ∙ ap (drop f.used_bits) (read_bits f.order (take f.level f.bytes)) in
    simp (begins_is s f.used_bits room, bits) at ((prefixed_law Q P s).law f.used_bits i n)

no_whole : {A : Type 0} (t : ItemAnswer A) → ((i : A) (n : ℕ) → t ≡ whole i n → ⊥) → (h : Shortfall) × (t ≡ cut h)
no_whole (whole i n) h = absurd (h i n refl)
no_whole (cut x) h = (x, refl)

pub held_cut : HeldCut
held_cut Q P f h = (
  λ e i p b. let w = (held_frame Q P f i _ h).1 (p, b, refl) in let z : ◌≡◌ {A = ℕ} 0 1 = cc in absurd (omega arith),
  λ none.
      let c = no_whole _ (λ i n e. let r = (held_frame Q P f i n h).0 e in none i r.0 r.1) in
      c.1 ∙ ap cut (prefixed_cut Q P (held_bytes f) f.used_bits c.1),
)
