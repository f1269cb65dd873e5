-- What the walk and the frame taken return, by the checks, and the phrase's part, by what the walk returns.
-- Assumes nothing.
use mathlib.Core.Path.{◌≡◌, refl, ap, ◌∙◌}
use mathlib.Core.List.{List}
use Prim.Native.Nat.{ℕ, ◌+◌, ◌*◌, ◌/◌, ◌≤◌}
use lib.Dec.{leb}
use lib.ListN.{length}
use Rattle.base.specs.Answers.{number_of, no_shortfall}
use Rattle.base.specs.declared.refusal.Refusal.{Refusal}
use Rattle.base.proofs.Faults.{answered, refused_with}
use Rattle.base.proofs.Refused.{refused_not_taken, uncut}
use Rattle.rom.specs.Bits.{image_limit}
use Rattle.rom.specs.Frames.{numbers_of}
use Rattle.rom.specs.Phrases.{Walked, walk_refused, walk_refused_with, walk_answer, part_of}
use Rattle.rom.specs.declared.phrases.Extent.{Extent}
use Rattle.std.specs.Prelude.{Result, Ok, Err, IfOk}
use Rattle.rom.proofs.Checks.{valid_length, bit_beyond}
use Rattle.rom.proofs.ItemWalk as walk
use Rattle.rates.specs.Form.{rate_form, read_item}
use Rattle.rates.specs.Walks.{rate_fault, items_at, rated_over, rated_walk_of, rated_phrase_of, RatedTaken, no_rated, rated_answer, rated_taken_answer, only_v, rated_taken_of}
use Rattle.rates.specs.declared.rate.FrameRate.{FrameRate}
use Rattle.rates.proofs.Checks.{rate_uncut}
use Rattle.rates.proofs.Theorems.{rated_accepts, rated_counts}

module _ (P : ℕ) (r : FrameRate) (s : List ℕ) (a : ℕ) where
  pub walk_refused_lem : (x : Refusal) → number_of x ≡ rate_fault s r (leb (length s) a) → walk_answer (Err x) ≡ rated_walk_of P r s a
  unfolding rated_walk_of
  walk_refused_lem x e =
      refused_with e walk_refused _ (refused_not_taken x)
      (ap (walk_refused_with (number_of x)) (uncut x (rw e (rate_uncut s r (leb (length s) a)))))

  pub walk_answered : {w : Walked} → 0 ≡ rate_fault s r (leb (length s) a) → w ≡ rated_over (rate_form r P) s (8 * a) (items_at (rate_form r P) s a)
      → w ≡ rated_walk_of P r s a
  unfolding rated_walk_of
  walk_answered e q = answered e walk_refused _ refl q

  module _ {w : Walked} (e : w ≡ rated_walk_of P r s a) where
    -- the phrase's bits end in the image
    pub phrase_room : w.refusal ≡ 0 → (8 * a + w.bits ≤ 8 * length s) × (length s ≤ image_limit)
    phrase_room h =
        let p = (rated_accepts P r s a).0 (rw e at h) in
        (rw (e, rated_counts P r s a p.2.0 p.0 p.1 p.2.1) (walk.phrase_room s (8 * a) p.2.1), (valid_length s p.0).1)

    pub phrase_is : part_of s a w.refusal w.bits ≡ rated_phrase_of P r s a
    unfolding rated_phrase_of
    phrase_is = ap (λ (w : Walked). part_of s a w.refusal w.bits) e

  pub accepted_room : (w : Result Extent Refusal) → walk_answer w ≡ rated_walk_of P r s a
      → IfOk w (λ e. (8 * a + e.bits ≤ 8 * length s) × (length s ≤ image_limit))
  accepted_room (Ok x) e = phrase_room e refl
  accepted_room (Err x) e = tt

-- ---- the frame taken

-- what is equal has frames of equal numbers
pub with_numbers : {x t : RatedTaken} → x ≡ t → (x ≡ t) × (numbers_of x.frame ≡ numbers_of t.frame)
with_numbers e = (e, ap (λ y. numbers_of y.frame) e)

module _ (P v : ℕ) (s : List ℕ) (bit : ℕ) where
  fault_is : {n : ℕ} → n ≡ rate_fault s (only_v v) (leb (length s) (bit / 8)) → n ≡ rate_fault s (only_v v) (leb (8 * length s) bit)
  fault_is e = e ∙ ap (rate_fault s (only_v v)) (bit_beyond s bit)

  abbrev refused : ℕ → RatedTaken
  refused m = no_rated m no_shortfall

  pub take_refused : (x : Refusal) → number_of x ≡ rate_fault s (only_v v) (leb (length s) (bit / 8))
      → rated_taken_answer (Err x) ≡ rated_taken_of P v s bit
  unfolding rated_taken_of
  take_refused x e =
      refused_with (fault_is e) refused _ (refused_not_taken x)
      (ap (no_rated (number_of x)) (uncut x (rw e (rate_uncut s (only_v v) (leb (length s) (bit / 8))))))

  pub take_answered : {t : RatedTaken} → 0 ≡ rate_fault s (only_v v) (leb (length s) (bit / 8))
      → t ≡ rated_answer (rate_form (only_v v) P) (read_item (rate_form (only_v v) P) s bit) → t ≡ rated_taken_of P v s bit
  unfolding rated_taken_of
  take_answered e a = answered (fault_is e) refused _ refl a
