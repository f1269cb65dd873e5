use Rattle.std.proofs.Common.{◌∙◌}
use Rattle.chip_numbers.specs.Chips.{chip_of}
use Rattle.capi.proofs.Settling.{settles_run}
use Rattle.capi.proofs.Valid.{run_valid}
use Rattle.capi.proofs.operations.tms_run.Goals as goal

pub returns : goal.returns
returns c =
    let done = settles_run c.args.chip.now _ (chip_of c.args.chip.now) _ (rw c.chip_of.ensures at c.run-answer.ensures.value) c.settle.ensures.says_next (run_valid c.args.image.now c.args.voice.now (chip_of c.args.chip.now) _) in
    record {
      value = c.settle.ensures.value ∙ done.number;
      chip_after = c.settle.ensures.chip_after ∙ done.after;
      says_next = done.says;
      out_after = rw c.chip_of.ensures at c.run-answer.ensures.out_after;
    }
