use Rattle.lister.specs.Lines.{phrase_line}
use Rattle.lister.proofs.Texts.{holds_nothing, holds_more, holds_all}
use Rattle.lister.proofs.LineLaws.{phrase_length}
use Rattle.lister.proofs.lines.phrase_line.Goals as goal

pub returns : goal.returns
unfolding phrase_line
returns c =
    let t = holds_nothing c.empty.ensures in
    let t = holds_more _ t c.with_word.ensures in
    let t = holds_more _ t (rw c.from.ensures at c.with_number.ensures) in
    let t = holds_more _ t c.with_word-2.ensures in
    let t = holds_more _ t c.with_number-2.ensures in
    let t = holds_more _ t c.with_word-3.ensures in
    let t = holds_more _ t c.with_number-3.ensures in
    holds_all (holds_more _ t c.with_word-4.ensures) (phrase_length _ _ _ c.ranges.frames.fits c.ranges.bits.fits c.ranges.bytes.fits)
