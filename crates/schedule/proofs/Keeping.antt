-- A step of speech from ROM, by cases; and speech from ROM keeps the schedule.
-- Assumes nothing.
use mathlib.Core.Path.{◌≡◌, ◌∙◌, refl, sym, ap, subst}
use mathlib.Core.Bool.{true, false, true≢false}
use mathlib.Core.List.{List, [], ◌∷◌}
use Prim.Native.Nat.{ℕ, zero, suc, ◌+◌, ◌-◌, ◌*◌, ◌≤◌, max}
use native.Mathlib.Nat.{add-zero, zero-add}
use native.Mathlib.Omega.{arith}
use lib.ListN.{length}
use Rattle.base.proofs.Booleans.{cond_true, cond_false}
use Rattle.clock.specs.Counters.{begun, frame_begins, counted}
use Rattle.base.specs.Steps.{state_after}
use Rattle.base.specs.Units.{intervals, samples_per_interval}
use Rattle.rom.specs.Frames.{is_stop}
use Rattle.rom.specs.Items.{ItemAnswer, whole, cut}
use Rattle.base.specs.declared.refusal.Shortfall.{Shortfall}
use Rattle.rates.specs.Form.{Form, read_item, KeepsSome, Item}
use Rattle.schedule.specs.Form.{lasting}
use Rattle.schedule.specs.Types.{Speech, Clock, Spoken}
use Rattle.schedule.specs.Speech.{silent, goes_on, rests as rested, by_answer, spoken, talking_from, speech_step, KeepsSchedule}
use Rattle.schedule.specs.Schedule.{told_from}
use Rattle.schedule.proofs.Due.{width, told_ahead, told_due_lem, told_more, told_stop, told_out, told_after_out}
use Rattle.schedule.proofs.Chain.{Chain, stop, more, end, chain_there}
use Rattle.schedule.proofs.Counting.{whole_frame, Left, left_sounds, left_begins, left_within, left_on, left_begun, left_started}
use Rattle.schedule.proofs.Progress.{Ending, sounds, rests, State, ahead, past, ended, out, state_talks, state_position}

-- ---- a step, by cases

module _ (F : Form) (image : List ℕ) (s : Speech) where
  pub spoken_silent : s.clock.sounding ≡ false → spoken F image s ≡ silent s
  unfolding spoken
  spoken_silent o = cond_false _ _ _ o

  pub spoken_within : s.clock.sounding ≡ true → frame_begins s.clock ≡ false → spoken F image s ≡ goes_on s
  unfolding spoken
  spoken_within o b = cond_true _ _ _ o ∙ cond_false _ _ _ b

  pub spoken_rests : s.clock.sounding ≡ true → frame_begins s.clock ≡ true → s.talking ≡ false → spoken F image s ≡ rested s
  unfolding spoken
  spoken_rests o b k = cond_true _ _ _ o ∙ cond_true _ _ _ b ∙ cond_false _ _ _ k

  pub spoken_reads : s.clock.sounding ≡ true → frame_begins s.clock ≡ true → s.talking ≡ true
      → spoken F image s ≡ by_answer F image s (read_item F image s.position)
  unfolding spoken
  spoken_reads o b k = cond_true _ _ _ o ∙ cond_true _ _ _ b ∙ cond_true _ _ _ k

-- ---- the schedule

-- what each step moves from n to n + 1, m steps move from n to n + m
pub after_steps : {S A : Type 0} (step : S → S × A) (P : ℕ → S → Type 0) → ((n : ℕ) (s : S) → P n s → P (n + 1) (step s).0)
    → (m : ℕ) {n : ℕ} {s : S} → P n s → P (n + m) (state_after step m s)
after_steps step P moves zero {n} h = rw (add-zero n) h
after_steps step P moves (suc m) {n} {s} h =
    let e : n + 1 + m ≡ n + suc m = omega arith in
    subst (λ (x : ℕ). P x (state_after step (suc m) s)) e (after_steps step P moves m (moves n s h))

module _ (F : Form) (keeps : KeepsSome F) where
  -- an item's samples and those of the intervals that it skips are a whole frame's
  lasts : (i : Item) → samples_per_interval * F.skips i.0 + lasting F i ≡ whole_frame
  lasts i = omega (arith, keeps i.0)

  -- the samples left after an item's first
  record Begun (i : Item) (t : Clock) : Type 0 where
    left : ℕ
    lasting_is : suc left ≡ lasting F i
    counts : Left (counted (begun (intervals (F.skips i.0)) t)) left

  begins : (i : Item) (t : Clock) → Left t 0 → Begun i t
  begins i t h =
      let e : suc (lasting F i - 1) ≡ lasting F i = omega (arith, keeps i.0) in
      record {
        left = lasting F i - 1;
        lasting_is = e;
        counts = left_begun t (F.skips i.0) (lasting F i - 1) (keeps i.0)
            (ap (λ (x : ℕ). samples_per_interval * F.skips i.0 + x) e ∙ lasts i) h;
      }

  module _ (image : List ℕ) where
    -- a step gives what is due, and moves the speech on
    pub record Next (at p n : ℕ) (is : List Item) (d : Spoken) : Type 0 where
      pub told : d.told ≡ told_from F at is (n + 1)
      pub state : State F (8 * length image) at p is (n + 1) d.speech

    module _ (s : Speech) where
      abbrev Steps : ℕ → ℕ → ℕ → List Item → Type 0
      Steps at p n is = Next at p n is (spoken F image s)

      -- the first item is still to come, later than at the next step
      not_yet : {at p n l : ℕ} {is : List Item} → n + 1 + suc l ≡ at → s.talking ≡ true → s.position ≡ p → Left s.clock (suc l)
          → Steps at p n is
      not_yet {at} {p} {n} {l} {is} a m q t =
          subst (Next at p n is) (sym (spoken_within F image s (left_sounds s.clock t) (left_within s.clock t)))
          (record {
            told = sym (told_ahead F at (n + 1) is (omega arith));
            state = ahead {l = l} (omega arith) m q (left_on s.clock t);
          })

      -- it is due at the next step
      reads : {p : ℕ} {r : ItemAnswer Item} → s.talking ≡ true → s.position ≡ p → Left s.clock 0 → read_item F image p ≡ r
          → spoken F image s ≡ by_answer F image s r
      reads m q t w =
          spoken_reads F image s (left_sounds s.clock t) (left_begins s.clock t) m
          ∙ ap (λ (x : ℕ). by_answer F image s (read_item F image x)) q ∙ ap (by_answer F image s) w

      module _ {at p n : ℕ} (a : n + 1 ≡ at) (m : s.talking ≡ true) (q : s.position ≡ p) (t : Left s.clock 0) where
        takes_stop : {i : Item} → read_item F image p ≡ whole i (p + width F i) → is_stop i.1 ≡ true → Steps at p n (i ∷ [])
        takes_stop {i} w k =
            let b = begins i s.clock t in
            subst (Next at p n (i ∷ [])) (sym (reads m q t w))
            (record {
              told = sym (told_due_lem F at (n + 1) i [] a);
              state = ended k (omega arith) (rw k) refl (sounds {l = b.left} (omega (arith, b.lasting_is)) b.counts);
            })

        takes_frame : {i : Item} {is : List Item} → read_item F image p ≡ whole i (p + width F i) → is_stop i.1 ≡ false → Steps at p n (i ∷ is)
        takes_frame {i} {is} w k =
            let b = begins i s.clock t in
            subst (Next at p n (i ∷ is)) (sym (reads m q t w))
            (record {
              told = sym (told_due_lem F at (n + 1) i is a);
              state = past k (omega arith) (ahead {l = b.left} (omega (arith, b.lasting_is)) (rw k) refl b.counts);
            })

        runs_out_lem : {h : Shortfall} → read_item F image p ≡ cut h → p ≤ 8 * length image → Steps at p n []
        runs_out_lem w l =
            let at-end : max s.position (8 * length image) ≡ 8 * length image = omega arith in
            subst (Next at p n []) (sym (reads m q t w))
            (record { told = sym (told_out F at (n + 1) a); state = out (omega arith) refl at-end refl })

      -- the stop's frame sounds on, rests at its end, and stays so
      after_stop : {at p n : ℕ} {i : Item} → is_stop i.1 ≡ true → at ≤ n → s.talking ≡ false → s.position ≡ p + width F i
          → Ending (at + lasting F i) n s.clock → Steps at p n (i ∷ [])
      after_stop {at} {p} {n} {i} k l m q (sounds {l = suc j} a t) =
          subst (Next at p n (i ∷ [])) (sym (spoken_within F image s (left_sounds s.clock t) (left_within s.clock t)))
          (record {
            told = sym (told_stop F at (n + 1) i k (omega arith));
            state = ended k (omega arith) m q (sounds {l = j} (omega arith) (left_on s.clock t));
          })
      after_stop {at} {p} {n} {i} k l m q (sounds {l = zero} a t) =
          subst (Next at p n (i ∷ [])) (sym (spoken_rests F image s (left_sounds s.clock t) (left_begins s.clock t) m))
          (record { told = sym (told_stop F at (n + 1) i k (omega arith)); state = ended k (omega arith) m q (rests (omega arith) refl) })
      after_stop {at} {p} {n} {i} k l m q (rests b t) =
          subst (Next at p n (i ∷ [])) (sym (spoken_silent F image s t))
          (record { told = sym (told_stop F at (n + 1) i k (omega arith)); state = ended k (omega arith) m q (rests (omega arith) t) })

      after_out : {at p n : ℕ} → at ≤ n → s.talking ≡ false → s.position ≡ 8 * length image → s.clock.sounding ≡ false → Steps at p n []
      after_out {at} {p} {n} l m q t =
          subst (Next at p n []) (sym (spoken_silent F image s t))
          (record { told = sym (told_after_out F at (n + 1) (omega arith)); state = out (omega arith) m q t })

      after_frame : {at p n : ℕ} {i : Item} {is : List Item} → is_stop i.1 ≡ false → at ≤ n
          → Steps (at + lasting F i) (p + width F i) n is → Steps at p n (i ∷ is)
      after_frame {at} {p} {n} {i} {is} k l h =
          record { told = h.told ∙ sym (told_more F at (n + 1) i is k (omega arith)); state = past {at = at} {n = n + 1} k (omega arith) h.state }

      -- a step, wherever the speech stands
      pub next : {at p n : ℕ} {is : List Item} → Chain F image p is → State F (8 * length image) at p is n s → Steps at p n is
      next c (ahead {l = suc l} a m q t) = not_yet a m q t
      next (stop w k) (ahead {l = zero} a m q t) = takes_stop (omega arith) m q t w k
      next (more w k c) (ahead {l = zero} a m q t) = takes_frame (omega arith) m q t w k
      next (end w h) (ahead {l = zero} a m q t) = runs_out_lem (omega arith) m q t w h
      next (stop w k) (past r l h) = absurd (true≢false (sym k ∙ r))
      next (more w k c) (past r l h) = after_frame r l (next c h)
      next (stop w k) (ended r l m q t) = after_stop r l m q t
      next (more w k c) (ended r l m q t) = absurd (true≢false (sym r ∙ k))
      next (end w h) (out l m q t) = after_out l m q t

-- speech that begins
pub begin : (F : Form) (e start : ℕ) (is : List Item) (t : Clock) → State F e 1 start is 0 (talking_from start t)
begin F e start is t = ahead {at = 1} {n = 0} {l = 0} (omega arith) refl refl (left_started t)

pub keeps_schedule : KeepsSchedule
keeps_schedule F keeps image start is h t n =
    let c = chain_there F image start is h in
    let e = 8 * length image in
    let after = state_after (speech_step F image) n (talking_from start t) in
    let now : State F e 1 start is n after =
    rw zero-add at (after_steps (speech_step F image) (State F e 1 start is) (λ m s x. (next F keeps image s c x).state) n (begin F e start is t)) in
    record { talking = state_talks F now; position = state_position F now; told = (next F keeps image after c now).told }
