use Rattle.std.proofs.Common.{ap, ◌∙◌}
use Rattle.base.proofs.Refused.{passed_on}
use Rattle.chip.specs.Read.{read_answer}
use Rattle.chip.proofs.BusCalls.{read_is, read_refused, looked_not_refused}
use Rattle.chip.proofs.state.Chip.read.Goals as goal

pub returns-in_err-byte : goal.returns-in_err-byte
returns-in_err-byte c =
    ap (read_answer c.args.self) (passed_on _ _ c.from_residual.ensures.1) ∙ read_refused _ _ c.in_err-byte.ensures

pub returns-in_err-chip : goal.returns-in_err-chip
returns-in_err-chip c = absurd (looked_not_refused _ _ c.in_ok-byte.ensures c.in_err-chip.ensures)

pub returns : goal.returns
returns c =
    read_is _ c.in_ok-byte.ensures c.in_ok-chip.ensures
