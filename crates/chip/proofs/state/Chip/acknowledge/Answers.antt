use Rattle.std.proofs.Common.{refl, ap, ◌∙◌}
use Rattle.base.proofs.Refused.{refused_not_taken, passed_on}
use Rattle.chip.specs.Read.{acknowledge_answer}
use Rattle.chip.proofs.BusCalls.{acknowledge_refused, acknowledge_taken}
use Rattle.chip.proofs.state.Chip.acknowledge.Goals as goal

pub returns-in_err-read_fault : goal.returns-in_err-read_fault
returns-in_err-read_fault c =
    ap (acknowledge_answer c.args.self) (passed_on _ _ c.from_residual.ensures.1)
    ∙ acknowledge_refused _ c.in_err-read_fault.ensures (refused_not_taken c.in_err-read_fault.field-0.0)

pub returns : goal.returns
returns c =
    acknowledge_taken _ c.in_ok-read_fault.ensures refl
    (rw (c.with_port.ensures, c.acknowledge-port.ensures))
