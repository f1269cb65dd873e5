use Rattle.std.proofs.Common.{rules}
use mathlib.Core.Path.{◌∙◌, ap}
use Rattle.base.proofs.Refused.{passed_on}
use Rattle.rom.specs.Reader.{taken_answer}
use Rattle.rom.proofs.Taking.{with_numbers, take_refused, take_answered, take_unrated}
use Rattle.rom.proofs.reader.frame_taken.Goals as goal

pub returns-in_err-image_fault : goal.returns-in_err-image_fault
returns-in_err-image_fault c =
    let e = ap taken_answer (passed_on _ _ c.from_residual.ensures.1) ∙ take_refused 6 _ _ _ c.in_err-image_fault.ensures in
    let both = with_numbers e in
    record { value = both.0; rate = search rules; frame_numbers = both.1 }

pub returns : goal.returns
returns c =
    let both = with_numbers (take_answered _ _ _ c.in_ok-image_fault.ensures _ c.taken_from.ensures) in
    record { value = both.0; rate = take_unrated _ _ _ c.in_ok-image_fault.ensures _ c.taken_from.ensures; frame_numbers = both.1 }
