-- Many steps at once: those of a chip that does not sound leave it as it is but for a branch's time, and within an interval in which a
-- sample has been made the control counts, and the sound plays on.
-- Assumes nothing.
use mathlib.Core.Path.{◌≡◌, refl, sym, ap, ◌∙◌, ap₂, subst}
use mathlib.Core.Bool.{false, Bool, true, not, ◌&&◌}
use mathlib.Core.List.{List, [], ◌∷◌, ◌++◌}
use Prim.Native.Nat.{ℕ, zero, suc, ◌+◌, ◌-◌, ◌≤◌}
use lib.IntN.{pos, ℤ}
use lib.ListN.{replicate}
use native.Mathlib.Numerals.{add-one}
use native.Mathlib.Omega.{arith}
use borrow.Author.Tests.{ne_eqb, eqb-false, eqb-true}
use lib.Dec.{eqb, leb}
use Rattle.base.specs.Steps.{state_after, outputs}
use Rattle.base.proofs.Steps.{after_add, outputs_add, after_keeps}
use Rattle.rom.specs.Frames.{pitch_width}
use Rattle.speech.proofs.Boundaries.{advanced_silent, advanced_within}
use Rattle.play.specs.Play.{sounded}
use Rattle.base.proofs.Booleans.{both_true, either_way, by_test}
use Rattle.sound.specs.Sample.{sampled, values_of, sound_step}
use Rattle.sound.specs.declared.state.Sound.{Sound}
use Rattle.clock.specs.Counters.{last_sample, last_interval, counted_by, interval_begins, frame_begins, left_of_interval, clock_valid}
use Rattle.control.specs.State.{with_clock, less_busy}
use Rattle.control.proofs.Busy.{less_none, less_twice}
use Rattle.control.specs.Validity.{speaks}
use Rattle.chip.specs.Types.{Moved, Chip, Stepped, Control, Clock, Continue}
use Rattle.chip.specs.Step.{step_taken, step_fault}
use Rattle.chip.specs.Run.{sample_step, played_on, silent_on}
use Rattle.chip.specs.Laws.{SilentSteps}
use Rattle.chip.proofs.Stepping.{step_taken_lem, passed}
use Rattle.chip.proofs.Ranges.{chip_ranges, valid_clock}
use Rattle.chip.proofs.KeptValid.{goes_on}

-- ---- a chip that does not sound

module _ (image voice : List ℕ) where
  silent_step : (c : Chip) → step_fault image voice c ≡ 0 → c.control.clock.sounding ≡ false → sample_step image voice c ≡ (silent_on 1 c, pos 0)
  unfolding step_taken
  silent_step c h off =
      ap (λ (r : Stepped). (r.chip, r.sample)) (sym (step_taken_lem image voice c refl h refl))
      ∙ ap (λ (m : Moved). (record { control = m.control; sound = (sounded pitch_width voice m.action c.sound).sound }, (sounded pitch_width voice m.action c.sound).value)) (sym (advanced_silent pitch_width image (less_busy 1 c.control) off refl))

  silent_none : (c : Chip) → c ≡ silent_on 0 c
  silent_none c = ap (λ (k : Control). record { control = k; sound = c.sound }) (sym (less_none c.control))

  silent_more : (n : ℕ) (c : Chip) → silent_on n (silent_on 1 c) ≡ silent_on (suc n) c
  silent_more n c =
      let e : 1 + n ≡ suc n = omega arith in
      ap (λ (k : Control). record { control = k; sound = c.sound }) (less_twice 1 n c.control)
      ∙ ap (λ (m : ℕ). silent_on m c) e

  silent_steps_from : (n : ℕ) (c : Chip) → step_fault image voice c ≡ 0 → c.control.clock.sounding ≡ false
      → (state_after (sample_step image voice) n c ≡ silent_on n c) × (outputs (sample_step image voice) n c ≡ replicate n (pos 0))
  silent_steps_from zero c h off = (silent_none c, refl)
  silent_steps_from (suc n) c h off =
      let s = silent_step c h off in
      let f = goes_on image voice c h (sym (step_taken_lem image voice c refl h refl)) in
      let r = silent_steps_from n (silent_on 1 c) (subst (λ (d : Chip). step_fault image voice d ≡ 0) (ap (λ (p : Chip × ℤ). p.0) s) f) off in (
        ap (λ (p : Chip × ℤ). state_after (sample_step image voice) n p.0) s ∙ r.0 ∙ silent_more n c,
        ap (λ (p : Chip × ℤ). p.1 ∷ outputs (sample_step image voice) n p.0) s ∙ ap (λ (l : List ℤ). pos 0 ∷ l) r.1,
      )

pub silent_steps : SilentSteps
silent_steps image voice c n h off = silent_steps_from image voice n c h off

-- ---- the counters

-- a clock from its counters
abbrev clock_at : Clock → ℕ → ℕ → Clock
clock_at t s i = record { sounding = t.sounding; sample = record { 0 = s }; interval = record { 0 = i } }

counted_none : (t : Clock) → t.sample.0 ≤ 24 → t.interval.0 ≤ 7 → counted_by 0 t ≡ t
counted_none t s i = ap₂ (clock_at t) (omega arith) (omega arith)

counted_more : (n : ℕ) (t : Clock) → counted_by 1 (counted_by n t) ≡ counted_by (n + 1) t
counted_more n t = ap₂ (clock_at t) (omega arith) (omega arith)

pub left_few : (t : Clock) → left_of_interval t ≤ 25
left_few t = by_test (λ n. n ≤ 25) (interval_begins t) (λ e. omega arith) (λ e. omega arith)

-- a clock with samples left has made one, and sounds
inside : (t : Clock) → 1 ≤ left_of_interval t → (1 ≤ t.sample.0) × (left_of_interval t ≡ 25 - t.sample.0)
inside t l =
    either_way (interval_begins t) (λ e. absurd (omega (arith, rw e at l))) (λ e. let n = eqb-false t.sample.0 0 e in (omega (arith, n), rw e))

sounds : (speaks : Bool) (t : Clock) → clock_valid speaks t ≡ true → 1 ≤ t.sample.0 → t.sounding ≡ true
sounds speaks t h l =
    either_way t.sounding (λ e. e)
    (λ e.
    let begins = (both_true (leb t.sample.0 last_sample && leb t.interval.0 last_interval) (frame_begins t && not speaks) (rw e at h)).1 in
    let none = eqb-true t.sample.0 0 (both_true (interval_begins t) (eqb t.interval.0 0) (both_true (frame_begins t) (not speaks) begins).0).0 in
    absurd (omega (arith, none)))

-- ---- the steps

module _ (image voice : List ℕ) where
  within_step : (c : Chip) → step_fault image voice c ≡ 0 → c.control.clock.sounding ≡ true → (c.control.clock.sample.0 ≡ 0 → ⊥)
      → sample_step image voice c ≡ (played_on voice 1 c, (sampled pitch_width voice c.sound).value)
  unfolding step_taken
  within_step c h on n =
      let t = c.control.clock in
      let inside : interval_begins t ≡ false = ne_eqb t.sample.0 0 n in
      ap (λ (r : Stepped). (r.chip, r.sample)) (sym (step_taken_lem image voice c refl h refl))
      ∙ ap (λ (m : Moved). (record { control = m.control; sound = (sounded pitch_width voice m.action c.sound).sound }, (sounded pitch_width voice m.action c.sound).value)) (sym (advanced_within pitch_width image (less_busy 1 c.control) {a = Continue} on (rw inside) refl (rw inside) refl))

  -- a step without a fault leads to another
  abbrev Faultless : Chip → Type 0
  Faultless c = step_fault image voice c ≡ 0

  faultless_after : (n : ℕ) (c : Chip) → Faultless c → Faultless (state_after (sample_step image voice) n c)
  faultless_after n c h = after_keeps (sample_step image voice) Faultless (λ c h. goes_on image voice c h (sym (step_taken_lem image voice c refl h refl))) n h

  -- n samples of a chip that does not sound
  pub record Silenced (n : ℕ) (c : Chip) : Type 0 where
    pub state : silent_on n c ≡ state_after (sample_step image voice) n c
    pub samples : replicate n (pos 0) ≡ outputs (sample_step image voice) n c
    pub faultless : step_fault image voice (silent_on n c) ≡ 0

  pub silenced : (n : ℕ) (c : Chip) → step_fault image voice c ≡ 0 → c.control.clock.sounding ≡ false → Silenced n c
  silenced n c h off =
      let r = silent_steps image voice c n h off in
      record { state = sym r.0; samples = sym r.1; faultless = subst Faultless r.0 (faultless_after n c h) }

  module _ (c : Chip) (h : step_fault image voice c ≡ 0) (on : c.control.clock.sounding ≡ true)
      (made : 1 ≤ c.control.clock.sample.0) (s : c.control.clock.sample.0 ≤ 24) (i : c.control.clock.interval.0 ≤ 7) where
    -- the states after n steps, and their samples
    record Within (n : ℕ) : Type 0 where
      state : state_after (sample_step image voice) n c ≡ played_on voice n c
      samples : outputs (sample_step image voice) n c ≡ values_of pitch_width voice n c.sound

    within_more : (n : ℕ) → c.control.clock.sample.0 + n ≤ 24 → Within n → Within (n + 1)
    within_more n l w =
        let d = played_on voice n c in
        let one = within_step d (subst Faultless w.state (faultless_after n c h)) on (λ e. omega (arith, e)) in
        record {
          state =
              after_add (sample_step image voice) n 1 c
              ∙ ap (λ (d : Chip). (sample_step image voice d).0) w.state
              ∙ ap (λ (r : Chip × ℤ). r.0) one
              ∙ ap₂ (λ (k : Control) (s : Sound). record { control = k; sound = s }) (ap₂ with_clock (counted_more n c.control.clock) (less_twice n 1 c.control)) (sym (after_add (sound_step pitch_width voice) n 1 c.sound));
          samples =
              outputs_add (sample_step image voice) n 1 c
              ∙ ap₂ ◌++◌ w.samples (ap (λ (d : Chip). (sample_step image voice d).1 ∷ []) w.state ∙ ap (λ (r : Chip × ℤ). r.1 ∷ []) one)
              ∙ sym (outputs_add (sound_step pitch_width voice) n 1 c.sound);
        }

    within_steps : (n : ℕ) → c.control.clock.sample.0 + n ≤ 25 → Within n
    within_steps zero l =
        record {
          state = sym (ap (λ (k : Control). record { control = k; sound = c.sound }) (ap₂ with_clock (counted_none c.control.clock s i) (less_none c.control)));
          samples = refl;
        }
    within_steps (suc n) l = subst Within (add-one n) (within_more n (omega arith) (within_steps n (omega arith)))

  -- the samples left of an interval, or the first n of them
  pub record Played (n : ℕ) (c : Chip) : Type 0 where
    pub state : played_on voice n c ≡ state_after (sample_step image voice) n c
    pub samples : values_of pitch_width voice n c.sound ≡ outputs (sample_step image voice) n c
    pub faultless : step_fault image voice (played_on voice n c) ≡ 0

  pub played : (n : ℕ) (c : Chip) → step_fault image voice c ≡ 0 → 1 ≤ left_of_interval c.control.clock → n ≤ left_of_interval c.control.clock → Played n c
  played n c h l m =
      let v = (passed image voice c h).chip_valid in
      let t = c.control.clock in
      let r = valid_clock c v in
      let i = inside t l in
      let w = within_steps c h (sounds (speaks c.control.mode) t (chip_ranges c v).control.clock i.0) i.0 r.0 r.1 n (omega (arith, r.0, i.1)) in
      record {
        state = sym w.state;
        samples = sym w.samples;
        faultless = subst Faultless w.state (faultless_after n c h);
      }
