-- What a step and a run return, by their fault, and what one without a fault finds.
-- Assumes nothing.
use mathlib.Core.Path.{◌≡◌, refl, ap}
use mathlib.Core.Bool.{Bool, true, not}
use mathlib.Core.List.{List, [], ◌∷◌}
use Prim.Native.Nat.{ℕ}
use lib.Dec.{eqb}
use lib.IntN.{ℤ}
use lib.ListN.{length}
use borrow.Author.Tests.{eqb-true, not-false}
use Rattle.base.specs.Refusals.{IMAGE, STATE}
use Rattle.base.specs.Steps.{state_after, outputs}
use Rattle.base.proofs.Faults.{First, first_is, answered, refused_with, own_number, none_applies}
use Rattle.rom.specs.Bits.{image_valid}
use Rattle.rom.specs.Frames.{pitch_width}
use Rattle.voice.specs.Check.{voice_fault, version}
use Rattle.sound.specs.declared.sample.Sampled.{Sampled}
use Rattle.speech.specs.Advance.{advanced}
use Rattle.play.specs.Play.{sounded}
use Rattle.chip.specs.Types.{Control, Moved, Chip, Stepped}
use Rattle.chip.specs.Validity.{valid}
use Rattle.chip.specs.Step.{step_taken, step_fault, not_stepped, step_of}
use Rattle.chip.specs.Run.{sample_step, not_run, run_of, buffer_of}
use Rattle.chip.specs.Laws.{ControlAlone}

module _ (image voice : List ℕ) (c : Chip) where
  -- the faults of a step, in the order of the checks
  abbrev step_faults : List (Bool × ℕ)
  step_faults =
      let v = voice_fault pitch_width version voice in
      (not (image_valid image), IMAGE) ∷ (not (eqb v 0), v) ∷ (not (valid c), STATE) ∷ []

  pub step_fault_lem : {n : ℕ} → First step_faults n → n ≡ step_fault image voice c
  unfolding step_fault
  step_fault_lem h = first_is h

  -- what a step without a fault finds
  pub record Passed : Type 0 where
    pub image_valid_lem : image_valid image ≡ true
    pub voice_valid : voice_fault pitch_width version voice ≡ 0
    pub chip_valid : valid c ≡ true

  pub passed : step_fault image voice c ≡ 0 → Passed
  unfolding step_fault
  passed h =
      let r = none_applies step_faults (own_number (voice_fault pitch_width version voice) ((not (valid c), STATE) ∷ []) tt) h in
      record { image_valid_lem = not-false _ r.0; voice_valid = eqb-true _ _ (not-false _ r.1.0); chip_valid = not-false _ r.1.1.0 }

  pub no_fault : Passed → step_fault image voice c ≡ 0
  unfolding step_fault
  no_fault p = rw (p.image_valid_lem, p.voice_valid, p.chip_valid)

  -- a step, from what its calls give
  pub step_taken_is : {m : Moved} {s : Sampled} {x : ℤ} → m ≡ advanced pitch_width image c.control
      → s ≡ sounded pitch_width voice m.action c.sound → x ≡ s.value
      → record { chip = record { control = m.control; sound = s.sound }; refusal = 0; sample = x; report = m.report; details = m.details } ≡ step_taken image voice c
  unfolding step_taken
  step_taken_is m s x = rw (x, s, m)

  module _ {n : ℕ} (e : n ≡ step_fault image voice c) where
    pub step_refused : (n ≡ 0 → ⊥) → not_stepped c n ≡ step_of image voice c
    unfolding step_of
    step_refused h = refused_with e (not_stepped c) _ h refl

    pub step_taken_lem : {r : Stepped} → n ≡ 0 → r ≡ step_taken image voice c → r ≡ step_of image voice c
    unfolding step_of
    step_taken_lem h r = answered e (not_stepped c) _ h r

    pub run_refused : (out : List ℤ) → (n ≡ 0 → ⊥) → (not_run c n ≡ run_of image voice c (length out)) × (out ≡ buffer_of image voice c out)
    unfolding run_of buffer_of
    run_refused out h = (refused_with e (not_run c) _ h refl, refused_with e (λ (n : ℕ). out) _ h refl)

    pub run_taken : (out : List ℤ) {d : Chip} {new : List ℤ} → n ≡ 0 → d ≡ state_after (sample_step image voice) (length out) c
        → new ≡ outputs (sample_step image voice) (length out) c
        → (record { chip = d; refusal = 0 } ≡ run_of image voice c (length out)) × (new ≡ buffer_of image voice c out)
    unfolding run_of buffer_of
    run_taken out h d new = (answered e (not_run c) _ h (rw d), answered e (λ (n : ℕ). out) _ h new)

  -- the step of a run
  pub sample_step_is : {r : Stepped} {x : ℤ} → step_fault image voice c ≡ 0 → r ≡ step_taken image voice c → x ≡ r.sample
      → (r.chip, x) ≡ sample_step image voice c
  sample_step_is h r x = rw x (ap (λ (r : Stepped). (r.chip, r.sample)) (step_taken_lem refl h r))

-- ---- the control does not depend on the sound

pub control_alone : ControlAlone
unfolding step_taken
control_alone image voice voice' c d e = record {
  control = ap (λ (k : Control). (advanced pitch_width image k).control) e;
  report = ap (λ (k : Control). (advanced pitch_width image k).report) e;
  details = ap (λ (k : Control). (advanced pitch_width image k).details) e;
}
