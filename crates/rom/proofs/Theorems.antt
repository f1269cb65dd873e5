-- The theorems of the walk, which are those of a walk over any items; what the walk returns, by the checks; and the phrase's part.
-- Assumes nothing.
use mathlib.Core.Path.{◌≡◌, refl, ap}
use mathlib.Core.Bool.{Bool, true, not}
use mathlib.Core.List.{List, [], ◌∷◌}
use Prim.Native.Nat.{ℕ, ◌+◌, ◌*◌, ◌≤◌, ◌<◌}
use native.Mathlib.Omega.{arith}
use borrow.Author.Tests.{lt-leb, leb-false, not-false}
use lib.Dec.{leb}
use lib.ListN.{length}
use Rattle.std.specs.Prelude.{Result, Ok, Err, IfOk}
use Rattle.base.specs.Answers.{number_of}
use Rattle.base.specs.Refusals.{IMAGE, BEYOND}
use Rattle.base.specs.declared.refusal.Refusal.{Refusal}
use Rattle.base.proofs.Faults.{NoneApplies, answered, refused_with}
use Rattle.base.proofs.Refused.{refused_not_taken, uncut}
use Rattle.rom.specs.Bits.{image_valid, image_fault, image_limit}
use Rattle.rom.specs.Items.{bits_all}
use Rattle.rom.specs.Reader.{short_of}
use Rattle.rom.specs.Phrases.{frame_code, PhraseAt, frames_at, walk_accepted, Walked, walked_over, walk_of, walk_refused, walk_refused_with, walk_answer, part_of, phrase_of}
use Rattle.rom.specs.Theorems.{WalkAccepts, WalkCounts, WalkRefuses, PhraseUnique, FramesRead}
use Rattle.rom.specs.declared.frames.Frame.{Frame}
use Rattle.rom.specs.declared.phrases.Extent.{Extent}
use Rattle.base.specs.declared.refusal.Shortfall.{Shortfall}
use Rattle.rom.proofs.Checks.{valid_length, image_uncut}
use Rattle.rom.proofs.FrameCode.{frames_lawful}
use Rattle.rom.proofs.ItemLaws.{there_read}
use Rattle.rom.proofs.ItemWalk as walk

module _ (P : ℕ) (s : List ℕ) (a : ℕ) where
  pub phrase_inside : {fs : List Frame} → PhraseAt P s a fs → a < length s
  phrase_inside = walk.phrase_inside (frame_code P) s _ (frames_lawful P s) a

  -- what an accepted walk returns, and the walk's faults
  abbrev accept : List Frame → Walked
  accept fs = walk_accepted (length (bits_all (frame_code P) fs)) (length fs)

  -- how short the image is of the frame after some frames
  abbrev short : List Frame → Shortfall
  short fs = let begun = 8 * a + length (bits_all (frame_code P) fs) in short_of P s begun begun

  abbrev faults : List (Bool × ℕ)
  faults = (not (image_valid s), IMAGE) ∷ (leb (length s) a, BEYOND) ∷ []

  none : image_valid s ≡ true → a < length s → NoneApplies faults
  none v inside = (rw v, (lt-leb (length s) a inside, tt))

  inside : NoneApplies faults → a < length s
  inside n = leb-false _ _ n.1.0

pub walk_counts : WalkCounts
unfolding walk_of
walk_counts P s a fs v p =
    walk.counts (frame_code P) s _ (frames_lawful P s) a (accept P s a) (λ fs. refl) (short P s a) (faults P s a) tt (inside P s a)
    (none P s a v (phrase_inside P s a p)) p

pub walk_accepts : WalkAccepts
unfolding walk_of
walk_accepts P s a =
    let h = walk.accepts (frame_code P) s _ (frames_lawful P s) a (accept P s a) (λ fs. refl) (short P s a) (faults P s a) tt (inside P s a) in
    (λ e. let r = h.0 e in (not-false _ r.0.0, r.1), λ r. h.1 (none P s a r.0 (phrase_inside P s a r.1.1), r.1))

pub walk_refuses : WalkRefuses
unfolding walk_of
walk_refuses P s a v i n fs t =
    walk.refuses (frame_code P) s _ (frames_lawful P s) a (accept P s a) (λ fs. refl) (short P s a) (faults P s a) tt (inside P s a) (none P s a v i) n t

pub phrase_unique : PhraseUnique
phrase_unique P s a = walk.one_phrase (frame_code P) s _ (frames_lawful P s) a

pub frames_read : FramesRead
frames_read P s a fs inside = there_read (frame_code P) s _ (frames_lawful P s) (8 * a) (omega arith) fs

-- ---- what the walk and the part return

module _ (P : ℕ) (s : List ℕ) (a : ℕ) where
  pub walk_refused_lem : (r : Refusal) → number_of r ≡ image_fault s (leb (length s) a) → walk_answer (Err r) ≡ walk_of P s a
  unfolding walk_of
  walk_refused_lem r e =
      refused_with e walk_refused _ (refused_not_taken r)
      (ap (walk_refused_with (number_of r)) (uncut r (rw e (image_uncut s (leb (length s) a)))))

  pub walk_answered : {w : Walked} → 0 ≡ image_fault s (leb (length s) a) → w ≡ walked_over P s (8 * a) (frames_at P s a) → w ≡ walk_of P s a
  unfolding walk_of
  walk_answered e r = answered e walk_refused _ refl r

  module _ {w : Walked} (e : w ≡ walk_of P s a) where
    -- the phrase's bits end in the image
    pub phrase_room : w.refusal ≡ 0 → (8 * a + w.bits ≤ 8 * length s) × (length s ≤ image_limit)
    phrase_room h =
        let p = (walk_accepts P s a).0 (rw e at h) in
        (rw (e, walk_counts P s a p.1.0 p.0 p.1.1) (walk.phrase_room s (8 * a) p.1.1), (valid_length s p.0).1)

    pub phrase_is : part_of s a w.refusal w.bits ≡ phrase_of P s a
    unfolding phrase_of
    phrase_is = ap (λ (w : Walked). part_of s a w.refusal w.bits) e

  pub accepted_room : (w : Result Extent Refusal) → walk_answer w ≡ walk_of P s a
      → IfOk w (λ e. (8 * a + e.bits ≤ 8 * length s) × (length s ≤ image_limit))
  accepted_room (Ok x) e = phrase_room e refl
  accepted_room (Err r) e = tt
