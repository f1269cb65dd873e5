use Rattle.std.proofs.Common.{◌∙◌}
use Rattle.chip_numbers.specs.Chips.{chip_of}
use Rattle.capi.proofs.Settling.{settles_acknowledge}
use Rattle.capi.proofs.Valid.{acknowledge_valid}
use Rattle.capi.proofs.operations.tms_acknowledge.Goals as goal

pub returns : goal.returns
returns c =
    let done = settles_acknowledge c.args.chip.now _ (chip_of c.args.chip.now) _ (rw c.chip_of.ensures at c.acknowledge-answer.ensures) c.settle.ensures.says_next (acknowledge_valid (chip_of c.args.chip.now)) in
    record {
      value = c.settle.ensures.value ∙ done.number;
      chip_after = c.settle.ensures.chip_after ∙ done.after;
      says_next = done.says;
    }
