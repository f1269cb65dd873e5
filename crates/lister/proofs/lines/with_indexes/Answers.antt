use Rattle.std.proofs.Common.{◌∙◌}
use Rattle.std.proofs.lemmas.List.{take_more}
use Rattle.lister.specs.Lines.{indexes}
use Rattle.lister.specs.Text.{contents}
use Rattle.lister.proofs.Texts.{nothing_appended, appended_twice}
use Rattle.lister.proofs.LineLaws.{indexes_more, indexes_length}
use Rattle.lister.proofs.lines.with_indexes.Goals as goal

pub loop-index-init : goal.loop-index-init
unfolding indexes contents
loop-index-init c = nothing_appended c.args.t c.args.t.fits

pub loop-index-preserved : goal.loop-index-preserved
loop-index-preserved c =
    rw (take_more c.args.list.now c.loop-index.index-index 0 c.loop-index-test.true, indexes_more, ← c.from.ensures)
    (c.with_number-r.ensures ∙ appended_twice _ _ _ _ c.with_byte.ensures ∙ appended_twice _ _ _ _ c.loop-index.invariant)

pub returns-clause-short : goal.returns-clause-short
returns-clause-short c = indexes_length c.args.list.now (λ i. (c.type_inv.list i).fits)
