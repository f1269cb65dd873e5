-- Which frame is decoded, by its head and kind, and whether it is whole: a law for each return.
-- Assumes nothing.
use mathlib.Core.Path.{◌≡◌, sym, ap}
use mathlib.Core.List.{List}
use Prim.Native.Nat.{ℕ, ◌+◌, ◌*◌, ◌≤◌, ◌<◌}
use borrow.Author.Tests.{le-leb, lt-leb, leb-true, leb-false}
use lib.Dec.{leb}
use lib.ListN.{length}
use Rattle.base.proofs.Booleans.{by_test}
use Rattle.rom.specs.Frames.{bit_count}
use Rattle.rom.specs.Reader.{FrameAnswer, head_at, kind_of, kind_bits, frame_of, decoded, cut_at, short_of, frame_from}
use Rattle.rom.specs.declared.frames.Frame.{Frame}
use Rattle.rom.specs.declared.head.Head.{Head}
use Rattle.rom.specs.declared.head.Kind.{Kind}
use Rattle.std.specs.Prelude.{Ok, Err}
use Rattle.base.specs.declared.refusal.Shortfall.{Shortfall}
use Rattle.rom.proofs.KindLaws.{kind_counts}

-- a frame answer is whole in one way, and not cut as well
whole_once : {f g : Frame} {n m : ℕ} → ◌≡◌ {A = FrameAnswer} (Ok (f, n)) (Ok (g, m)) → (f ≡ g) × (n ≡ m)
whole_once {f} {g} {n} {m} e =
    let p : ◌≡◌ {A = Frame × ℕ} (f, n) (g, m) = cc in
    (ap (λ x. x.0) p, ap (λ x. x.1) p)

whole_or_cut : {p : Frame × ℕ} {h : Shortfall} → ◌≡◌ {A = FrameAnswer} (Ok p) (Err h) → ⊥
whole_or_cut e = cc

cut_once : {h k : Shortfall} → ◌≡◌ {A = FrameAnswer} (Err h) (Err k) → h ≡ k
cut_once e = cc

module _ (P : ℕ) (s : List ℕ) (at : ℕ) where
  -- by the head, and the kind that it gives
  module _ {h : Head} {k : Kind} (hh : h ≡ head_at P s at) (hk : k ≡ kind_of h) where
    pub kind_decoded : frame_of k h s (at + 5 + P) ≡ decoded P s at
    unfolding decoded
    kind_decoded = rw (hk, hh)

    pub kind_length : kind_bits P k ≡ bit_count P (decoded P s at)
    kind_length = rw (← kind_decoded) (kind_counts P k h s (at + 5 + P))

  module _ (begun : ℕ) {n : ℕ} (hn : n ≡ bit_count P (decoded P s at)) where
    pub whole_is : {f : Frame} → f ≡ decoded P s at → at + n ≤ 8 * length s → Ok (f, at + n) ≡ frame_from P s begun at
    unfolding frame_from
    whole_is hf h = simp (hf, ← hn, le-leb _ _ h)

    pub cut_is : {end : ℕ} → end ≡ 8 * length s → {h : Shortfall} → h ≡ cut_at P begun at (at + n) end → end < at + n
        → Err h ≡ frame_from P s begun at
    unfolding frame_from short_of
    cut_is e c h = rw (c, e, ← hn, lt-leb _ _ (rw e at h))

  -- a whole frame is the one decoded, ends after its bits, and ends within the image
  pub whole_decoded : (begun : ℕ) {f : Frame} {n : ℕ} → Ok (f, n) ≡ frame_from P s begun at
      → (f ≡ decoded P s at) × (n ≡ at + bit_count P f) × (n ≤ 8 * length s)
  unfolding frame_from
  whole_decoded begun {f} {n} h =
      by_test (λ (t : FrameAnswer). Ok (f, n) ≡ t → (f ≡ decoded P s at) × (n ≡ at + bit_count P f) × (n ≤ 8 * length s))
      (leb (at + bit_count P (decoded P s at)) (8 * length s))
      (λ room e. let w = whole_once e in (w.0, rw w.0 w.1, rw w.1 (leb-true _ _ room)))
      (λ room e. absurd (whole_or_cut e))
      h

  -- a cut one tells how short the image is, which ends before the frame does
  pub cut_decoded : (begun : ℕ) {h : Shortfall} → Err h ≡ frame_from P s begun at
      → (h ≡ short_of P s begun at) × (8 * length s < at + bit_count P (decoded P s at))
  unfolding frame_from
  cut_decoded begun {h} e =
      by_test (λ (t : FrameAnswer). Err h ≡ t → (h ≡ short_of P s begun at) × (8 * length s < at + bit_count P (decoded P s at)))
      (leb (at + bit_count P (decoded P s at)) (8 * length s))
      (λ room e. absurd (whole_or_cut (sym e)))
      (λ room e. (cut_once e, leb-false _ _ room))
      e
