use Rattle.lister.specs.Lines.{cut_line}
use Rattle.lister.proofs.Texts.{holds_nothing, holds_more, holds_all}
use Rattle.lister.proofs.LineLaws.{cut_length}
use Rattle.lister.proofs.lines.cut_line.Goals as goal

pub returns : goal.returns
unfolding cut_line
returns c =
    let t = holds_nothing c.empty.ensures in
    let t = holds_more _ t c.with_word.ensures in
    let t = holds_more _ t c.with_number.ensures in
    let t = holds_more _ t c.with_byte.ensures in
    let t = holds_more _ t c.with_number-2.ensures in
    holds_all (holds_more _ t c.with_byte-2.ensures) (cut_length _ _ c.ranges.begun.fits c.ranges.missing.fits)
