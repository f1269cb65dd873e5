-- What is due, one item at a time: before the first of the items, from its step on, and where there is none; the steps of the
-- schedule, numbered as 01 says; and its end.
-- Assumes nothing.
use mathlib.Core.Path.{◌≡◌, refl, sym, ap, ◌∙◌}
use mathlib.Core.Bool.{true, false, and-false}
use mathlib.Core.List.{List, [], ◌∷◌, ◌++◌, append-nil}
use Prim.Native.Nat.{ℕ, ◌+◌, ◌≤◌, ◌<◌}
use native.Mathlib.Nat.{add_assoc, add-zero}
use native.Mathlib.Omega.{arith}
use borrow.Author.Tests.{eq-eqb, ne_eqb, eqb-true, eqb-false, leb-true, leb-false, le-leb, lt-leb, lt-ltb, le-ltb}
use lib.Dec.{eqb, leb}
use lib.ListN.{length, length-append}
use Rattle.base.proofs.Booleans.{either_way, by_test, neither}
use Rattle.rom.specs.Frames.{is_stop}
use Rattle.rom.specs.Items.{bits_all, has_stop, Ended, last, more}
use Rattle.rom.proofs.ItemLaws.{has_stop_lem}
use Rattle.reports.proofs.RanOut.{nothing_not_out, frame_not_out}
use Rattle.rates.specs.Form.{Form, Item, item_code, KeepsSome}
use Rattle.schedule.specs.Form.{lasting}
use Rattle.schedule.specs.Types.{NoReport, RanOut, Told, tells_rated, tells}
use Rattle.schedule.specs.Schedule.{due_report, due_from, end_from, told_from, talks_from, position_from, total_samples, total_bits, Numbered, JustAfter, OutBehind}

-- the bits of an item
abbrev pub width : Form → Item → ℕ
width F i = length ((item_code F).bits i)

module _ (F : Form) where
  -- ---- the step of the end: a stop's, or that of the items after an item that is none

  module _ (at : ℕ) (i : Item) (is : List Item) where
    pub end_stop : is_stop i.1 ≡ true → end_from F at (i ∷ is) ≡ at
    unfolding end_from
    end_stop k = rw k

    pub end_more : is_stop i.1 ≡ false → end_from F at (i ∷ is) ≡ end_from F (at + lasting F i) is
    unfolding end_from
    end_more k = rw k

  -- it is not before the first item
  pub end_after : (at : ℕ) (is : List Item) → at ≤ end_from F at is
  unfolding end_from
  end_after at [] = omega arith
  end_after at (i ∷ is) = by_test (λ n. at ≤ n) (is_stop i.1) (λ k. omega arith) (λ k. omega (arith, end_after (at + lasting F i) is))

  -- ---- before the first item's step

  pub told_ahead : (at n : ℕ) (is : List Item) → n < at → told_from F at is n ≡ tells NoReport
  unfolding told_from
  told_ahead at n [] h = rw (ne_eqb n at (omega arith))
  told_ahead at n (i ∷ is) h =
      rw (ne_eqb n at (omega arith)) (by_test (λ t. t ≡ tells NoReport) (is_stop i.1) (λ k. refl) (λ k. told_ahead (at + lasting F i) n is (omega arith)))

  due_ahead : (at n : ℕ) (is : List Item) → n < at → due_from F at is n ≡ []
  unfolding due_from
  due_ahead at n [] h = refl
  due_ahead at n (i ∷ is) h = rw (lt-leb at n h)

  module _ (at n : ℕ) (is : List Item) (h : n < at) where
    pub talks_ahead : talks_from F at is n ≡ true
    talks_ahead = lt-ltb n (end_from F at is) (omega (arith, end_after at is))

    pub position_ahead : (p e : ℕ) → position_from F at p e is n ≡ p
    position_ahead p e = rw (lt-leb (end_from F at is) n (omega (arith, end_after at is)), and-false, due_ahead at n is h, add-zero)

  -- ---- from its step on

  module _ (at n : ℕ) (i : Item) (is : List Item) where
    pub told_due_lem : n ≡ at → told_from F at (i ∷ is) n ≡ tells_rated i.0 (due_report i.1)
    unfolding told_from
    told_due_lem e = rw (eq-eqb n at e)

    pub due_first : at ≤ n → due_from F at (i ∷ is) n ≡ i ∷ due_from F (at + lasting F i) is n
    unfolding due_from
    due_first h = rw (le-leb at n h)

    -- where it is no stop
    module _ (k : is_stop i.1 ≡ false) where
      pub told_more : at < n → told_from F at (i ∷ is) n ≡ told_from F (at + lasting F i) is n
      unfolding told_from
      told_more h = rw (ne_eqb n at (omega arith), k)

      pub talks_more : talks_from F at (i ∷ is) n ≡ talks_from F (at + lasting F i) is n
      talks_more = rw (end_more at i is k)

      pub position_more : (p e : ℕ) → at ≤ n → position_from F at p e (i ∷ is) n ≡ position_from F (at + lasting F i) (p + width F i) e is n
      position_more p e h =
          rw (end_more at i is k, due_first h, k, length-append ((item_code F).bits i) (bits_all (item_code F) (due_from F (at + lasting F i) is n)), add_assoc)

  -- where it is the stop
  module _ (at n : ℕ) (i : Item) (k : is_stop i.1 ≡ true) where
    pub told_stop : at < n → told_from F at (i ∷ []) n ≡ tells NoReport
    unfolding told_from
    told_stop h = rw (ne_eqb n at (omega arith), k)

    module _ (h : at ≤ n) where
      pub due_stop : due_from F at (i ∷ []) n ≡ i ∷ []
      unfolding due_from
      due_stop = due_first at n i [] h

      pub talks_stop : talks_from F at (i ∷ []) n ≡ false
      talks_stop = rw (end_stop at i [] k) (le-ltb n at h)

      pub position_stop : (p e : ℕ) → position_from F at p e (i ∷ []) n ≡ p + width F i
      position_stop p e = rw (k, due_stop, length-append ((item_code F).bits i) [], add-zero)

  -- ---- where there is none

  module _ (at n : ℕ) where
    pub told_out : n ≡ at → told_from F at [] n ≡ tells RanOut
    unfolding told_from
    told_out e = rw (eq-eqb n at e)

    pub told_after_out : at < n → told_from F at [] n ≡ tells NoReport
    unfolding told_from
    told_after_out h = rw (ne_eqb n at (omega arith))

    module _ (h : at ≤ n) where
      pub talks_out : talks_from F at [] n ≡ false
      unfolding end_from
      talks_out = le-ltb n at h

      pub position_out : (p e : ℕ) → position_from F at p e [] n ≡ e
      unfolding end_from
      position_out p e = rw (le-leb at n h)

-- ---- the steps, numbered

module _ (F : Form) where
  -- past items that are no stops, the others are due after their samples
  told_past : KeepsSome F → (at : ℕ) (js ks : List Item) → has_stop (item_code F) js ≡ false
      → told_from F at (js ++ ks) (at + total_samples F js) ≡ told_from F (at + total_samples F js) ks (at + total_samples F js)
  told_past keeps at [] ks e = rw add-zero
  told_past keeps at (j ∷ js) ks e =
      let s = neither (is_stop j.1) (has_stop (item_code F) js) e in
      let later : at < at + (lasting F j + total_samples F js) = omega (arith, keeps j.0) in
      told_more F at (at + (lasting F j + total_samples F js)) j (js ++ ks) s.0 later
      ∙ rw (← add_assoc at (lasting F j) (total_samples F js)) (told_past keeps (at + lasting F j) js ks s.1)

  end_past : (at : ℕ) (js ks : List Item) → has_stop (item_code F) js ≡ false → end_from F at (js ++ ks) ≡ end_from F (at + total_samples F js) ks
  end_past at [] ks e = rw add-zero
  end_past at (j ∷ js) ks e =
      let s = neither (is_stop j.1) (has_stop (item_code F) js) e in
      end_more F at j (js ++ ks) s.0
      ∙ rw (← add_assoc at (lasting F j) (total_samples F js)) (end_past (at + lasting F j) js ks s.1)

  -- from the stop's step on all items of a phrase are due
  all_due : {is : List Item} → Ended (item_code F) is → (at n : ℕ) → end_from F at is ≤ n → due_from F at is n ≡ is
  all_due (last {f = i} k) at n h = due_stop F at n i k (omega (arith, end_stop F at i [] k))
  all_due (more {f = i} {fs = is} k d) at n h =
      let e = end_more F at i is k in
      due_first F at n i is (omega (arith, e, end_after F at (i ∷ is)))
      ∙ ap (λ (js : List Item). i ∷ js) (all_due d (at + lasting F i) n (omega (arith, e)))

  -- and the position is past their bits
  past_all : {is : List Item} → Ended (item_code F) is → (at start end n : ℕ) → end_from F at is ≤ n
      → position_from F at start end is n ≡ start + total_bits F is
  past_all d at start end n h = rw (has_stop_lem d, all_due d at n h)

  -- where running out is due, past items that are no stops
  out_behind_from : (at start end : ℕ) (is : List Item) (n : ℕ) → (told_from F at is (n + 1)).report ≡ RanOut
      → (has_stop (item_code F) is ≡ false) × (position_from F at start end is n ≡ start + total_bits F is)
  unfolding told_from
  out_behind_from at start end [] n e =
      either_way (eqb (n + 1) at)
      (λ t. (refl, position_ahead F at n [] (omega (arith, eqb-true (n + 1) at t)) start end ∙ sym (add-zero start)))
      (λ t. absurd (nothing_not_out (rw t at e)))
  out_behind_from at start end (i ∷ is) n e =
      either_way (leb at n)
      (λ l.
      let h = leb-true at n l in
      let t = ne_eqb (n + 1) at (omega arith) in
      either_way (is_stop i.1) (λ k. absurd (nothing_not_out (rw (t, k) at e)))
      (λ k.
      let r = out_behind_from (at + lasting F i) (start + width F i) end is n (rw (t, k) at e) in
      let bits : start + width F i + total_bits F is ≡ start + total_bits F (i ∷ is) =
      rw (length-append ((item_code F).bits i) (bits_all (item_code F) is), add_assoc) in
      (rw (k, r.0), position_more F at n i is k start end h ∙ r.1 ∙ bits)))
      (λ l. either_way (eqb (n + 1) at) (λ t. absurd (frame_not_out i.1 (rw t at e)))
      (λ t.
      let h : n + 1 < at = omega (arith, leb-false at n l, eqb-false (n + 1) at t) in
      absurd (nothing_not_out (sym (ap (λ (x : Told). x.report) (told_ahead F at (n + 1) (i ∷ is) h)) ∙ e))))

pub out_behind : OutBehind
out_behind F start end is n e = out_behind_from F 1 start end is n e

pub numbered : Numbered
unfolding end_from
numbered F keeps js e =
    let n = 1 + total_samples F js in
    record {
      frame = λ i ks. told_past F keeps 1 js (i ∷ ks) e ∙ told_due_lem F n n i ks refl;
      stop = λ i ks k. end_past F 1 js (i ∷ ks) e ∙ end_stop F n i ks k;
      out = rw append-nil at (told_past F keeps 1 js [] e) ∙ told_out F n n refl;
      end = rw append-nil at (end_past F 1 js [] e);
    }

pub just_after : JustAfter
just_after F start end is d n h = past_all F d 1 start end n h
