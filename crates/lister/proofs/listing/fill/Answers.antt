-- A line more at each turn, until the lines or the room end.
use Rattle.std.proofs.Common.{◌∙◌, rules}
use Rattle.lister.proofs.Filling.{filling_more}
use Rattle.lister.proofs.listing.fill.Goals as goal

pub loop-left-preserved : goal.loop-left-preserved
loop-left-preserved c =
    let p = c.put-used in
    let k = c.line_at-line.ensures in
    let i = c.loop-left.invariant in
    (filling_more i.0 (search rules) (search rules) p.auto.out p.ensures.0 p.ensures.1 k.0 k.1, p.auto.out ∙ i.1)
