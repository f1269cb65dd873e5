-- The walk over frames of a form: that over the items of the form, with their intervals added up.
-- Assumes nothing.
use mathlib.Core.Path.{◌≡◌, sym, ap, ◌∙◌}
use mathlib.Core.Bool.{true, false}
use mathlib.Core.List.{List}
use Prim.Native.Nat.{ℕ, ◌+◌, ◌*◌, ◌-◌, ◌≤◌, ◌<◌}
use native.Mathlib.Nat.{zero-add}
use native.Mathlib.Omega.{arith}
use lib.ListN.{length}
use Rattle.rom.specs.Bits.{field}
use Rattle.rom.specs.Frames.{is_stop}
use Rattle.rom.specs.Items.{whole, items_from}
use Rattle.rom.specs.Prefix.{with_prefix}
use Rattle.rom.specs.Reader.{frame_from}
use Rattle.rom.specs.Phrases.{walk_cut}
use Rattle.rom.specs.declared.frames.Frame.{Frame}
use Rattle.rom.specs.Reader.{FrameAnswer}
use Rattle.std.specs.Prelude.{Ok, Err}
use Rattle.base.specs.declared.refusal.Shortfall.{Shortfall}
use Rattle.rom.specs.Phrases.{Walked}
use Rattle.rom.proofs.Decoding.{cut_decoded}
use Rattle.rom.proofs.ItemLaws.{next_in}
use Rattle.rom.proofs.ItemWalk as walk
use Rattle.rom.proofs.Prefixed.{prefixed_law}
use Rattle.rom.specs.Form.{Form, KeepsSome, Item, item_code, read_item, short_at, kept_intervals, rated_accepted, rated_over}

-- the item that stands at a bit, from its prefix and its frame
pub read_is : (F : Form) (s : List ℕ) (at : ℕ) {Q q : ℕ} {a : FrameAnswer} → Q ≡ F.prefix → q ≡ field s at Q → a ≡ frame_from F.pitch s at (at + Q)
    → read_item F s at ≡ with_prefix q a
read_is F s at e b a = rw (b, a, e)

module _ (F : Form) (s : List ℕ) (start : ℕ) where
  -- all items from bit `start` on
  abbrev pub all : List Item
  all = items_from (item_code F) (read_item F s) start (8 * length s)

  -- what a walk returns that is cut after some bits
  abbrev cut_after : ℕ → Walked
  cut_after bits = walk_cut (short_at F s (start + bits))

  -- the walk from bit `start` has come to bit `at` after k frames of t intervals
  abbrev pub Come : ℕ → ℕ → ℕ → Type 0
  Come =
      walk.Come (item_code F) (kept_intervals F) rated_accepted cut_after s (read_item F s)
      (prefixed_law F.prefix F.pitch s) start

  -- all of it
  over_is : {w : Walked}
      → w ≡ walk.walked_on (item_code F) (kept_intervals F) rated_accepted cut_after 0 0 0 all
      → w ≡ rated_over F s start all
  over_is e = e ∙ simp zero-add

  pub come_first : start ≤ 8 * length s → Come start 0 0
  come_first = walk.come_first (item_code F) _ _ _ s _ (prefixed_law F.prefix F.pitch s) start

-- of a sum of 8 a frame, without the intervals that are skipped, there is left what the frames keep
pub kept_is : (F : Form) (k : ℕ) {x : ℕ} (f : Frame) (q : ℕ) → KeepsSome F → x ≤ 8 * k → 8 * k - x + kept_intervals F (q, f) ≡ 8 * (k + 1) - (x + F.skips q)
kept_is F k f q keeps h = omega (arith, keeps q)

-- with the rate bits q and the frame answer a, as they are read at a prefix of p bits
module _ (F : Form) {s : List ℕ} {start at k t : ℕ} (h : Come F s start at k t) {p q : ℕ} {a : FrameAnswer}
    (ep : p ≡ F.prefix) (eq : q ≡ field s at p) (ea : a ≡ frame_from F.pitch s at (at + p)) where
  answer : read_item F s at ≡ with_prefix q a
  answer = read_is F s at ep eq ea

  pub come_cut : {y : Shortfall} → a ≡ Err y → walk_cut y ≡ rated_over F s start (all F s start)
  come_cut c =
      let x = (cut_decoded F.pitch s (at + p) at (sym c ∙ ea)).0 in
      let b : start + (at - start) ≡ at = omega (arith, h.passed) in
      ap walk_cut (x ∙ rw (b, ep))
      ∙ over_is F s start
      (walk.come_cut (item_code F) _ _ _ s _ (prefixed_law F.prefix F.pitch s) start h (answer ∙ ap (with_prefix q) c))

  module _ {f : Frame} {n : ℕ} (w : a ≡ Ok (f, n)) where
    item : read_item F s at ≡ whole (q, f) n
    item = answer ∙ ap (with_prefix q) w

    -- the item has a bit and ends in the image
    pub further : (at < n) × (n ≤ 8 * length s)
    further =
        let l = prefixed_law F.prefix F.pitch s in
        (omega (arith, ((l.law at (q, f) n).0 item).2, l.some (q, f)), next_in (item_code F) s _ l at item)

    pub come_stop : is_stop f ≡ true
        → rated_accepted (n - start) (k + 1) (t + kept_intervals F (q, f)) ≡ rated_over F s start (all F s start)
    come_stop e =
        over_is F s start (walk.come_stop (item_code F) _ _ _ s _ (prefixed_law F.prefix F.pitch s) start h item e)

    pub come_on : is_stop f ≡ false → Come F s start n (k + 1) (t + kept_intervals F (q, f))
    come_on e = walk.come_on (item_code F) _ _ _ s _ (prefixed_law F.prefix F.pitch s) start h item e
