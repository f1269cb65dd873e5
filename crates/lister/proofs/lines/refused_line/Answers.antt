use Rattle.std.proofs.Common.{rules}
use Rattle.lister.specs.Lines.{refused_line}
use Rattle.lister.proofs.Texts.{holds_nothing, holds_more, holds_all}
use Rattle.lister.proofs.LineLaws.{refused_length}
use Rattle.lister.proofs.lines.refused_line.Goals as goal

pub returns : goal.returns
unfolding refused_line
returns c =
    let t = holds_nothing c.empty.ensures in
    let t = holds_more _ t c.with_word.ensures in
    let t = holds_more _ t (rw (c.from.ensures, c.number.ensures) at c.with_number.ensures) in
    holds_all (holds_more _ t c.with_byte.ensures) (refused_length _ (search rules))
