use Rattle.rom.proofs.Taking.{item_taken}
use Rattle.rom.proofs.reader.taken_from.Goals as goal

pub overflow_sub-result : goal.overflow_sub-result
overflow_sub-result g c =
    (item_taken (g.F.FrameForm.form c.args.form) _ _ c.prefix-prefix.ensures c.field_at-rate.ensures (rw c.pitch.ensures at c.frame_from-answer.ensures) c.in-Ok.is).0

pub returns : goal.returns
returns g c =
    (item_taken (g.F.FrameForm.form c.args.form) _ _ c.prefix-prefix.ensures c.field_at-rate.ensures (rw c.pitch.ensures at c.frame_from-answer.ensures) c.in-Ok.is).1
