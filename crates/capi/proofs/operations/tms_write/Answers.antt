use Rattle.std.proofs.Common.{◌∙◌}
use Rattle.chip_numbers.specs.Chips.{chip_of}
use Rattle.capi.proofs.Settling.{settles_write}
use Rattle.capi.proofs.Valid.{write_valid}
use Rattle.capi.proofs.operations.tms_write.Goals as goal

pub returns : goal.returns
returns c =
    let done = settles_write c.args.chip.now _ (chip_of c.args.chip.now) _ (rw c.chip_of.ensures at c.write-answer.ensures) c.settle.ensures.says_next (write_valid c.args.image.now (chip_of c.args.chip.now) c.args.byte) in
    record {
      value = c.settle.ensures.value ∙ done.number;
      chip_after = c.settle.ensures.chip_after ∙ done.after;
      says_next = done.says;
    }
