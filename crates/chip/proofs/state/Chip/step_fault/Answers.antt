use Rattle.std.proofs.Common.{not, refl, ap, ◌∙◌}
use Rattle.base.specs.Answers.{number_of_answer}
use Rattle.base.proofs.Faults.{none, applies_not, passes_not, applies_own, passes_own}
use Rattle.base.proofs.Refused.{refused_not_taken, passed_on}
use Rattle.chip.proofs.Stepping.{step_fault_lem}
use Rattle.chip.proofs.state.Chip.step_fault.Goals as goal

pub returns-then-not-image_valid : goal.returns-then-not-image_valid
returns-then-not-image_valid c =
    step_fault_lem _ _ _ (applies_not c.image_valid.ensures (ap not c.if-not-image_valid.true))

pub returns-in_err-voice_check : goal.returns-in_err-voice_check
returns-in_err-voice_check c =
    ap number_of_answer (passed_on _ _ c.from_residual.ensures.1)
    ∙ step_fault_lem _ _ _
    (passes_not c.image_valid.ensures (ap not c.if-not-image_valid.false)
    (applies_own c.in_err-voice_check.ensures (refused_not_taken c.in_err-voice_check.field-0.0)))

pub returns-then-not-valid : goal.returns-then-not-valid
returns-then-not-valid c =
    step_fault_lem _ _ _
    (passes_not c.image_valid.ensures (ap not c.if-not-image_valid.false)
    (passes_own c.in_ok-voice_check.ensures refl (applies_not c.valid.ensures (ap not c.if-not-valid.true))))

pub returns : goal.returns
returns c =
    step_fault_lem _ _ _
    (passes_not c.image_valid.ensures (ap not c.if-not-image_valid.false)
    (passes_own c.in_ok-voice_check.ensures refl (passes_not c.valid.ensures (ap not c.if-not-valid.false) none)))
