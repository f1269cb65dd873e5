-- A sample step (01, "Sound", "Refusal numbers"): the control moves, and the sound does what it asks.
use Rattle.std.specs.Prelude.{Result, Ok, Err, not, List, [], ◌∷◌, ℕ, eqb, pos}
use Rattle.base.specs.Answers.{number_of}
use Rattle.base.specs.Refusals.{TAKEN, IMAGE, STATE, first_fault, unless_fault}
use Rattle.base.specs.declared.refusal.Refusal.{Refusal}
use Rattle.rom.specs.Bits.{image_valid}
use Rattle.rom.specs.Frames.{pitch_width}
use Rattle.reports.specs.Reports.{no_details}
use Rattle.voice.specs.Check.{voice_fault, version}
use Rattle.speech.specs.Advance.{advanced}
use Rattle.play.specs.Play.{sounded}
use Rattle.chip.specs.Types.{Chip, NoReport, Stepped, SampleStep}
use Rattle.chip.specs.Validity.{valid}

-- a step that is taken
unfoldable pub step_taken : List ℕ → List ℕ → Chip → Stepped
step_taken image voice c =
    let m = advanced pitch_width image c.control in
    let s = sounded pitch_width voice m.action c.sound in
    record { chip = record { control = m.control; sound = s.sound }; refusal = TAKEN; sample = s.value; report = m.report; details = m.details }

-- the fault of a step, in 01's order of checks: 3, 5 to 9, 4
unfoldable pub step_fault : List ℕ → List ℕ → Chip → ℕ
step_fault image voice c =
    let v = voice_fault pitch_width version voice in
    first_fault ((not (image_valid image), IMAGE) ∷ (not (eqb v TAKEN), v) ∷ (not (valid c), STATE) ∷ [])

-- refused: the given state, sample 0, nothing reported
abbrev pub not_stepped : Chip → ℕ → Stepped
not_stepped c n = record { chip = c; refusal = n; sample = pos 0; report = NoReport; details = no_details }

-- a sample step
unfoldable pub step_of : List ℕ → List ℕ → Chip → Stepped
step_of image voice c = unless_fault (step_fault image voice c) (not_stepped c) (step_taken image voice c)

-- what an answer of the operation says: refused, the given chip is handed back, with the sample 0 and no report
abbrev pub step_answer : Chip → Result SampleStep Refusal → Stepped
step_answer c (Ok s) = record { chip = s.chip; refusal = TAKEN; sample = s.sample; report = s.report; details = s.details }
step_answer c (Err r) = record { chip = c; refusal = number_of r; sample = pos 0; report = NoReport; details = no_details }
