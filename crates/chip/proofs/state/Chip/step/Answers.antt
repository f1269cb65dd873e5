use Rattle.std.proofs.Common.{◌≡◌, refl, ap, ◌∙◌}
use Rattle.base.proofs.Refused.{refused_not_taken, passed_on}
use Rattle.reports.specs.Reports.{report_numbers}
use Rattle.chip.specs.Types.{Stepped}
use Rattle.chip.specs.Step.{step_answer}
use Rattle.chip.proofs.Stepping.{step_refused, step_taken_lem}
use Rattle.chip.proofs.state.Chip.step.Goals as goal

-- what is equal is so in the paper's numbers
in_numbers : {r t : Stepped} → r ≡ t → (r ≡ t) × (report_numbers r.report ≡ report_numbers t.report)
in_numbers e = (e, ap (λ (r : Stepped). report_numbers r.report) e)

pub returns-in_err-step_fault : goal.returns-in_err-step_fault
returns-in_err-step_fault c =
    let both = in_numbers
    (ap (step_answer c.args.self) (passed_on _ _ c.from_residual.ensures.1)
    ∙ step_refused _ _ _ c.in_err-step_fault.ensures (refused_not_taken c.in_err-step_fault.field-0.0)) in
    record { value = both.0; in_numbers = both.1 }

pub returns : goal.returns
returns c =
    let both = in_numbers (step_taken_lem _ _ _ c.in_ok-step_fault.ensures refl c.take_step.ensures) in
    record { value = both.0; in_numbers = both.1 }
