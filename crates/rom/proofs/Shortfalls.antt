-- How short the bits are of a frame that is cut.
-- Assumes nothing.
use mathlib.Core.Path.{◌≡◌, refl, sym, ap}
use Prim.Native.Nat.{ℕ, ◌+◌, ◌*◌, ◌-◌, ◌≤◌, ◌<◌, max}
use native.Mathlib.Omega.{arith}
use borrow.Author.Tests.{ltb-true, ltb-false}
use lib.Dec.{ltb}
use lib.ListN.{length}
use Rattle.base.proofs.Booleans.{by_test}
use Rattle.rom.specs.Frames.{bit_count}
use Rattle.rom.specs.Reader.{head_at, kind_of, kind_bits, decoded, counted_to, cut_at, short_of}
use Rattle.rom.specs.Theorems.{Counted, energy, pitch, unvoiced, voiced, Missing}
use Rattle.rom.specs.declared.head.Kind.{Kind}
use Rattle.rom.specs.declared.head.Kind.TheVariants.{Silence, Stop, Repeat, Unvoiced, Voiced}
use Rattle.rom.proofs.Decoding.{kind_length, cut_decoded}

-- a frame whose bits end at bit e is counted up to a later bit: past its pitch, where it is known that it ends later
pub counted_past : (P at next e : ℕ) → (at + 5 + P ≤ e → e < next) → e < counted_to P at next e
counted_past P at next e h =
    by_test (λ n. e < n) (ltb e (at + 4)) (λ t. ltb-true e (at + 4) t)
    (λ n. by_test (λ n. e < n) (ltb e (at + 5 + P)) (λ t. ltb-true e (at + 5 + P) t)
    (λ m. h (ltb-false e (at + 5 + P) m)))

-- the four numbers: the frame behind Q bits from bit `at` on has the kind k, and the bits end at bit `end` before it does
module _ (Q P at end : ℕ) where
  -- past the pitch the kind is one of two
  in_k : (k : Kind) (e : ℕ) → e ≡ max at end → end < at + Q + kind_bits P k → at + Q + 5 + P ≤ e → Counted Q P k (end - at) (at + Q + kind_bits P k - e)
  in_k Silence e m h l = absurd (omega arith)
  in_k Stop e m h l = absurd (omega arith)
  in_k Repeat e m h l = absurd (omega arith)
  in_k Unvoiced e m h l = unvoiced (omega arith) refl (omega arith)
  in_k Voiced e m h l = voiced (omega arith) refl (omega arith)

  pub counted : (k : Kind) → end < at + Q + kind_bits P k → Counted Q P k (end - at) (cut_at P at (at + Q) (at + Q + kind_bits P k) end).missing
  counted k h =
      let e = max at end in
      by_test (λ n. Counted Q P k (end - at) (n - e)) (ltb e (at + Q + 4))
      (λ t. let l = ltb-true e (at + Q + 4) t in energy (omega arith) (omega arith))
      (λ f. let l = ltb-false e (at + Q + 4) f in
      by_test (λ n. Counted Q P k (end - at) (n - e)) (ltb e (at + Q + 5 + P))
      (λ t. let r = ltb-true e (at + Q + 5 + P) t in pitch (omega arith) (omega arith) (omega arith))
      (λ g. in_k k e refl h (ltb-false e (at + Q + 5 + P) g)))

pub missing : Missing
unfolding short_of
missing Q P s at h c =
    let d = cut_decoded P s (at + Q) at (sym c) in
    let k = kind_of (head_at P s (at + Q)) in
    let n : kind_bits P k ≡ bit_count P (decoded P s (at + Q)) = kind_length P s (at + Q) refl refl in
    let m : h.missing ≡ (cut_at P at (at + Q) (at + Q + kind_bits P k) (8 * length s)).missing = rw n (ap (λ x. x.missing) d.0) in
    let l : 8 * length s < at + Q + kind_bits P k = rw n d.1 in (
      ap (λ x. x.begun) d.0,
      omega (arith, m, counted_past P (at + Q) (at + Q + kind_bits P k) (max at (8 * length s)) (omega arith)),
      rw m (counted Q P at (8 * length s) k l),
    )
