use Rattle.std.proofs.Common.{ap, ◌∙◌}
use Rattle.chip.specs.Types.{ByteRead}
use Rattle.chip.specs.Validity.{valid}
use Rattle.chip_numbers.specs.Chips.{chip_of}
use Rattle.capi.proofs.Valid.{read_valid}
use Rattle.capi.proofs.operations.tms_read.Goals as goal

pub returns-in-Ok-clause-says_next : goal.returns-in-Ok-clause-says_next
returns-in-Ok-clause-says_next c =
    let w = rw c.chip_of.ensures at c.in-Ok.ensures in
    λ z. c.settle.ensures.says_next (ap (λ (w : ByteRead). valid w.chip) w ∙ read_valid (chip_of c.args.chip.now) z) ∙ ap (λ (w : ByteRead). w.chip) w
