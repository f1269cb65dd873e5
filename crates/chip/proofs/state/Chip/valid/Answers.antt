use Rattle.chip.specs.Validity.{valid}
use Rattle.chip.proofs.state.Chip.valid.Goals as goal

pub returns : goal.returns
unfolding valid
returns c =
    rw (c.is_at_rest.ensures, c.valid-2.ensures, c.valid.ensures)
