-- What is due when (01, "What acceptance reads"), of items that stand one after another in the bits. Taken sample steps are
-- numbered from 1. Nothing here speaks of a chip: all is given by the items and the number of steps.
use Rattle.std.specs.Prelude.{◌≡◌, Bool, true, false, not, cond, ◌&&◌, List, [], ◌∷◌, ◌++◌, ℕ, ◌+◌, ◌≤◌, eqb, leb, ltb, length}
use Rattle.rom.specs.Frames.{is_stop}
use Rattle.rom.specs.Items.{bits_all, has_stop, Ended}
use Rattle.rom.specs.declared.frames.Frame.{Frame}
use Rattle.rates.specs.Form.{Form, KeepsSome, Item, item_code}
use Rattle.schedule.specs.Form.{lasting}
use Rattle.schedule.specs.Types.{Report, NoReport, FrameReport, StopReport, RanOut, Told, tells_rated, tells}

-- a due frame is reported as frame or stop
abbrev pub due_report : Frame → Report
due_report f = cond (is_stop f) StopReport (FrameReport f)

module _ (F : Form) where
  -- the samples of items
  abbrev pub total_samples : List Item → ℕ
  total_samples [] = 0
  total_samples (i ∷ is) = lasting F i + total_samples is

  -- the bits of items, as many as their code gives them
  abbrev pub total_bits : List Item → ℕ
  total_bits is = length (bits_all (item_code F) is)

  -- ---- from a step on: the next of the items is due at step `at`, and each later one after the samples of those before it

  -- the items due in the first n steps
  unfoldable pub due_from : ℕ → List Item → ℕ → List Item
  due_from at [] n = []
  due_from at (i ∷ is) n = cond (leb at n) (i ∷ due_from (at + lasting F i) is n) []

  -- the step of the end: the stop's or, without one, running out, where the next item would be due
  unfoldable pub end_from : ℕ → List Item → ℕ
  end_from at [] = at
  end_from at (i ∷ is) = cond (is_stop i.1) at (end_from (at + lasting F i) is)

  -- what step n gives: the frame due at it, as frame or stop, with its rate bits, or ran out with no frame, else nothing
  unfoldable pub told_from : ℕ → List Item → ℕ → Told
  told_from at [] n = tells (cond (eqb n at) RanOut NoReport)
  told_from at (i ∷ is) n =
      cond (eqb n at) (tells_rated i.0 (due_report i.1)) (cond (is_stop i.1) (tells NoReport) (told_from (at + lasting F i) is n))

  -- after n steps the device talks: exactly before the step of the stop or of running out
  abbrev pub talks_from : ℕ → List Item → ℕ → Bool
  talks_from at is n = ltb n (end_from at is)

  -- after n steps the items have run out: there is no stop among them, and the end is reached
  abbrev pub out_from : ℕ → List Item → ℕ → Bool
  out_from at is n = not (has_stop (item_code F) is) && leb (end_from at is) n

  -- the position after n steps, where the items stand from bit `start` on in an image that ends at bit `end`: past the bits of
  -- the items due so far, or the image's end after running out
  abbrev pub position_from : ℕ → ℕ → ℕ → List Item → ℕ → ℕ
  position_from at start end is n = cond (out_from at is n) end (start + total_bits (due_from at is n))

  -- ---- the first item is due at step 1, and so an item at 1 plus the samples of the items before it

  -- the step of the end
  abbrev pub end_step : List Item → ℕ
  end_step = end_from 1

  -- what step n gives
  abbrev pub told_at : List Item → ℕ → Told
  told_at = told_from 1

  -- whether the device talks after n steps
  abbrev pub talks_after : List Item → ℕ → Bool
  talks_after = talks_from 1

  -- the position after n steps
  abbrev pub position_after : ℕ → ℕ → List Item → ℕ → ℕ
  position_after = position_from 1

  -- ---- what is proved of it, in 01's words

  -- after the items js, the next is due at the step numbered 1 plus their samples, and is the end if it is a stop; without a
  -- next, running out is due there, and is the end
  pub record DueAfter (js : List Item) : Type 0 where
    pub frame : (i : Item) (ks : List Item) → told_at (js ++ (i ∷ ks)) (1 + total_samples js) ≡ tells_rated i.0 (due_report i.1)
    pub stop : (i : Item) (ks : List Item) → is_stop i.1 ≡ true → end_step (js ++ (i ∷ ks)) ≡ 1 + total_samples js
    pub out : told_at js (1 + total_samples js) ≡ tells RanOut
    pub end : end_step js ≡ 1 + total_samples js

-- for all items of which none is a stop
abbrev pub Numbered : Type 0
Numbered = (F : Form) → KeepsSome F → (js : List Item) → has_stop (item_code F) js ≡ false → DueAfter F js

-- From the stop's step on the position is just after the phrase.
abbrev pub JustAfter : Type 0
JustAfter =
    (F : Form) (start end : ℕ) (is : List Item) → Ended (item_code F) is → (n : ℕ) → end_step F is ≤ n
    → position_after F start end is n ≡ start + total_bits F is

-- Where running out is due at the step after n others, none of the items is a stop, and before that step the position is past them all.
abbrev pub OutBehind : Type 0
OutBehind =
    (F : Form) (start end : ℕ) (is : List Item) (n : ℕ) → (told_at F is (n + 1)).report ≡ RanOut
    → (has_stop (item_code F) is ≡ false) × (position_after F start end is n ≡ start + total_bits F is)
