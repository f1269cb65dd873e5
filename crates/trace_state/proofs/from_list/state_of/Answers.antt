use Rattle.trace_state.specs.Fields.{chip_of}
use Rattle.trace_state.proofs.Signed.{mode_is}
use Rattle.trace_state.proofs.from_list.state_of.Goals as goal

pub returns : goal.returns
unfolding chip_of
returns c = rw (← mode_is) c.read_chip.ensures
