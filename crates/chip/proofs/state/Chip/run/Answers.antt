use Rattle.std.proofs.Common.{refl, ap, ◌∙◌}
use Rattle.base.proofs.Refused.{refused_not_taken, passed_on}
use Rattle.chip.specs.Run.{run_answer}
use Rattle.chip.proofs.Stepping.{run_refused, run_taken}
use Rattle.chip.proofs.state.Chip.run.Goals as goal

pub returns-in_err-step_fault : goal.returns-in_err-step_fault
returns-in_err-step_fault c =
    let both = run_refused c.args.image.now c.args.voice.now c.args.self c.in_err-step_fault.ensures c.args.out.now (refused_not_taken c.in_err-step_fault.field-0.0) in
    record { value = ap (run_answer c.args.self) (passed_on _ _ c.from_residual.ensures.1) ∙ both.0; out_after = both.1 }

pub returns : goal.returns
returns c =
    let both = run_taken c.args.image.now c.args.voice.now c.args.self c.in_ok-step_fault.ensures c.args.out.now refl c.fill.ensures.value c.fill.ensures.out_after in
    record { value = both.0; out_after = both.1 }
