-- Frames without a prefix as items of the plain form.
-- Assumes nothing.
use mathlib.Core.Path.{◌≡◌, refl, ap, ◌∙◌}
use mathlib.Core.List.{List, [], ◌∷◌, ◌++◌, map}
use Prim.Native.Nat.{ℕ, zero, suc, ◌*◌}
use native.Mathlib.Nat.{zero-add, add-zero}
use native.Mathlib.Omega.{arith}
use lib.ListN.{length}
use Rattle.base.proofs.Booleans.{either_way}
use Rattle.rom.specs.Bits.{field, digits}
use Rattle.rom.specs.Frames.{bits_of, is_stop}
use Rattle.rom.specs.Items.{bits_all, Ended, last, more, has_stop, items_from, items_of, sum_of, There}
use Rattle.rom.specs.Phrases.{frame_code, FramesThere, item_answer_of, frames_from, walked_over}
use Rattle.rom.specs.Prefix.{with_prefix}
use Rattle.rom.specs.declared.frames.Frame.{Frame}
use Rattle.rom.specs.Reader.{FrameAnswer, FrameTaken, frame_at, taken_of}
use Rattle.std.specs.Prelude.{Ok, Err}
use Rattle.rom.proofs.FrameCode.{frames_lawful}
use Rattle.rom.proofs.ItemLaws.{there_inside, there_read}
use Rattle.rom.proofs.Prefixed.{prefixed_read}
use Rattle.rom.specs.Form.{plain_form, Item, plain, item_code, read_item, kept_intervals, rated_over, RatedTaken, rated_answer}

-- the numbers of a frame taken without its rate
abbrev pub unrated : RatedTaken → FrameTaken
unrated t = record { refusal = t.refusal; frame = t.frame; bits = t.bits; short = t.short }

module _ (P : ℕ) where
  -- what the reader returns of a frame that no prefix precedes
  pub plain_read : (s : List ℕ) (at : ℕ) → read_item (plain_form P) s at ≡ with_prefix 0 (frame_at P s at)
  unfolding field
  plain_read s at = rw add-zero

  -- they have the same bits
  pub plain_bits : (fs : List Frame) → bits_all (item_code (plain_form P)) (map plain fs) ≡ bits_all (frame_code P) fs
  unfolding digits
  plain_bits [] = refl
  plain_bits (f ∷ fs) = ap (λ (bs : List ℕ). bits_of P f ++ bs) (plain_bits fs)

  -- the same ends
  pub plain_ended : {fs : List Frame} → Ended (frame_code P) fs → Ended (item_code (plain_form P)) (map plain fs)
  plain_ended (last k) = last k
  plain_ended (more k d) = more k (plain_ended d)

  -- the same stops, and as many
  plain_stops : (fs : List Frame) → has_stop (item_code (plain_form P)) (map plain fs) ≡ has_stop (frame_code P) fs
  plain_stops [] = refl
  plain_stops (f ∷ fs) = rw (plain_stops fs)

  plain_length : (fs : List Frame) → length (map plain fs) ≡ length fs
  plain_length [] = refl
  plain_length (f ∷ fs) = rw (plain_length fs)

  -- each lasts 8 intervals
  plain_kept : (fs : List Frame) → sum_of (kept_intervals (plain_form P)) (map plain fs) ≡ 8 * length fs
  plain_kept [] = refl
  plain_kept (f ∷ fs) = rw (plain_kept fs) (omega arith)

  -- and a walk over the same is the same
  pub plain_over : (s : List ℕ) (start : ℕ) (fs : List Frame) → rated_over (plain_form P) s start (map plain fs) ≡ walked_over P s start fs
  plain_over s start fs = rw (plain_stops fs, plain_bits fs, plain_length fs, plain_kept fs, add-zero)

  -- a frame taken is the same
  pub plain_answer : (t : FrameAnswer) → unrated (rated_answer (plain_form P) (with_prefix 0 t)) ≡ taken_of P t
  plain_answer (Ok (f, next)) = rw zero-add
  plain_answer (Err h) = refl

  -- with no rate
  pub plain_rate : (t : FrameAnswer) → (rated_answer (plain_form P) (with_prefix 0 t)).rate ≡ 0
  plain_rate (Ok (f, next)) = refl
  plain_rate (Err h) = refl

  module _ (s : List ℕ) where
    -- and the same are read
    pub plain_from : (n at : ℕ) → items_from (item_code (plain_form P)) (read_item (plain_form P) s) at n ≡ map plain (frames_from P s at n)
    unfolding items_from
    plain_from zero at = refl
    plain_from (suc n) at = rw plain_read (go (plain_from n) (frame_at P s at))
      where
        go : ((at : ℕ) → items_from (item_code (plain_form P)) (read_item (plain_form P) s) at n ≡ map plain (frames_from P s at n)) → (r : FrameAnswer)
            → items_of (item_code (plain_form P)) (with_prefix 0 r) (λ next. items_from (item_code (plain_form P)) (read_item (plain_form P) s) next n)
            ≡ map plain (items_of (frame_code P) (item_answer_of r) (λ next. frames_from P s next n))
        go ih (Ok (f, next)) = either_way (is_stop f) (λ t. rw t) (λ t. rw t (ap (λ (is : List Item). plain f ∷ is) (ih next)))
        go ih (Err h) = refl

    -- the frames there, as items, are the items there
    pub plain_there : (a : ℕ) (fs : List Frame) → FramesThere P s a fs → There (item_code (plain_form P)) s (8 * a) (map plain fs)
    plain_there a fs h =
        let l = there_inside (frame_code P) s (8 * a) fs h in
        (prefixed_read 0 P s (8 * a) (map plain fs) l).1
        (plain_from (8 * length s) (8 * a) ∙ ap (map plain) ((there_read (frame_code P) s _ (frames_lawful P s) (8 * a) l fs).0 h))

-- the walk of the plain form is that of frames without a prefix
pub plain_walked : (P : ℕ) (s : List ℕ) (start : ℕ)
    → rated_over (plain_form P) s start (items_from (item_code (plain_form P)) (read_item (plain_form P) s) start (8 * length s))
    ≡ walked_over P s start (frames_from P s start (8 * length s))
plain_walked P s start = ap (rated_over (plain_form P) s start) (plain_from P s (8 * length s) start) ∙ plain_over P s start (frames_from P s start (8 * length s))
