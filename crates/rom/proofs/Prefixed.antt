-- Frames after a prefix of any width are items whose reader obeys the central law, so that the laws of items hold of them.
-- Assumes nothing.
use mathlib.Core.Path.{◌≡◌, sym, ap, ◌∙◌}
use mathlib.Core.List.{List}
use Prim.Native.Nat.{ℕ, ◌+◌}
use native.Mathlib.Omega.{arith}
use lib.ListN.{length, length-append}
use Rattle.rom.specs.Bits.{field, digits, Begins}
use Rattle.rom.specs.Frames.{bits_of}
use Rattle.rom.specs.Items.{whole, cut}
use Rattle.rom.specs.Prefix.{prefixed_code, with_prefix, read_prefixed}
use Rattle.rom.specs.Reader.{short_of}
use Rattle.rom.specs.Theorems.{PrefixedLaw, PrefixedRead, PrefixedUnique}
use Rattle.rom.specs.declared.frames.Frame.{Frame}
use Rattle.rom.specs.Reader.{FrameAnswer}
use Rattle.std.specs.Prelude.{Ok, Err}
use Rattle.base.specs.declared.refusal.Shortfall.{Shortfall}
use Rattle.rom.proofs.Fields.{field_lt}
use Rattle.rom.proofs.Encoding.{length_digits, digits_field, field_digits, begins_room, begins_join, begins_split}
use Rattle.rom.proofs.CentralLaw.{central_from}
use Rattle.rom.proofs.Decoding.{cut_decoded}
use Rattle.rom.proofs.FrameCode.{four_bits}
use Rattle.rom.proofs.ItemLaws.{there_read}
use Rattle.rom.proofs.ItemWalk.{one_phrase}

is_whole : {q : ℕ} {t : FrameAnswer} {i : ℕ × Frame} {n : ℕ} → with_prefix q t ≡ whole i n → (q ≡ i.0) × (t ≡ Ok (i.1, n))
is_whole {q} {t = Ok (g, m)} {i} {n} e =
    let p : (q, g) ≡ i = cc in
    let r : m ≡ n = cc in
    (ap (λ x. x.0) p, ap (λ x. Ok (x.1, m)) p ∙ ap (λ n. Ok (i.1, n)) r)
is_whole {t = Err h} e = let z : ◌≡◌ {A = ℕ} 0 1 = cc in absurd (omega arith)

is_cut : (q : ℕ) {t : FrameAnswer} {h : Shortfall} → with_prefix q t ≡ cut h → t ≡ Err h
is_cut q {t = Ok (g, m)} e = let z : ◌≡◌ {A = ℕ} 0 1 = cc in absurd (omega arith)
is_cut q {t = Err x} e = cc

-- what the reader tells where the bits end
pub prefixed_cut : (Q P : ℕ) (s : List ℕ) (at : ℕ) {h : Shortfall} → read_prefixed Q P s at ≡ cut h → h ≡ short_of P s at (at + Q)
prefixed_cut Q P s at e = (cut_decoded P s (at + Q) at (sym (is_cut (field s at Q) e))).0

module _ (Q P : ℕ) where
  length_prefixed : (i : ℕ × Frame) → length ((prefixed_code Q P).bits i) ≡ Q + length (bits_of P i.1)
  length_prefixed i = omega (arith, length-append (digits Q i.0) (bits_of P i.1), length_digits Q i.0)

  module _ (s : List ℕ) (at : ℕ) (i : ℕ × Frame) (n : ℕ) where
    sound : read_prefixed Q P s at ≡ whole i n
        → (prefixed_code Q P).Proper i × Begins s at ((prefixed_code Q P).bits i) × (n ≡ at + length ((prefixed_code Q P).bits i))
    sound e =
        let b = is_whole e in
        let r = (central_from P s at (at + Q) i.1 n).0 b.1 in
        let d = field_digits s at Q (omega (arith, begins_room s (at + Q) (bits_of P i.1) r.1)) in (
          (rw b.0 at (field_lt s at Q), r.0),
          begins_join s at (digits Q i.0) (bits_of P i.1) (rw b.0 at d) (rw (length_digits Q i.0) r.1),
          omega (arith, r.2, length_prefixed i),
        )

    complete : (prefixed_code Q P).Proper i → Begins s at ((prefixed_code Q P).bits i) → n ≡ at + length ((prefixed_code Q P).bits i)
        → read_prefixed Q P s at ≡ whole i n
    complete k h e =
        let b = begins_split s at (digits Q i.0) (bits_of P i.1) h in
        let l : n ≡ at + Q + length (bits_of P i.1) = omega (arith, length_prefixed i) in
        rw ((central_from P s at (at + Q) i.1 n).1 (k.1, rw (length_digits Q i.0) at b.1, l), digits_field s at Q i.0 k.0 b.0)

pub prefixed_law : PrefixedLaw
prefixed_law Q P s = record {
  law = λ at i n. (sound Q P s at i n, λ h. complete Q P s at i n h.0 h.1 h.2);
  some = λ i. omega (arith, length_prefixed Q P i, four_bits P i.1);
}

pub prefixed_read : PrefixedRead
prefixed_read Q P s at fs h = there_read (prefixed_code Q P) s _ (prefixed_law Q P s) at h fs

pub prefixed_unique : PrefixedUnique
prefixed_unique Q P s a = one_phrase (prefixed_code Q P) s _ (prefixed_law Q P s) a
