use Rattle.std.proofs.Common.{refl, ap, ◌∙◌}
use Rattle.base.proofs.Refused.{refused_not_taken, passed_on}
use Rattle.chip.specs.Read.{look_answer}
use Rattle.chip.proofs.BusCalls.{look_refused, look_taken}
use Rattle.chip.proofs.state.Chip.look.Goals as goal

pub returns-in_err-read_fault : goal.returns-in_err-read_fault
returns-in_err-read_fault c =
    ap (look_answer c.args.self) (passed_on _ _ c.from_residual.ensures.1)
    ∙ look_refused _ c.in_err-read_fault.ensures (refused_not_taken c.in_err-read_fault.field-0.0)

pub returns : goal.returns
returns c =
    look_taken _ c.in_ok-read_fault.ensures refl c.bus_byte.ensures
