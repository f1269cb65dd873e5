-- The indexes passed are appended.
use Rattle.std.proofs.Common.{◌≡◌, take}
use Rattle.lister.specs.Text.{contents, appended}
use Rattle.lister.specs.Lines.{indexes}
use Rattle.lister.proofs.lines.with_indexes.Given as goal

abbrev pub invariant-loop-index : goal.invariant-loop-index
invariant-loop-index l = contents l.r ≡ appended l.initial.r (indexes (take l.index-index l.list))
