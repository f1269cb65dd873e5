use Rattle.control.specs.Validity.{control_valid}
use Rattle.control.proofs.state.Control.valid.Goals as goal

pub returns : goal.returns
unfolding control_valid
returns c =
    rw (c.valid-4.ensures, c.valid-3.ensures, c.speaks.ensures, c.valid-2.ensures, c.fifo_valid.ensures, c.valid.ensures)
