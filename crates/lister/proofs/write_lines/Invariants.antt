-- Each turn lists at least a line.
use Rattle.std.proofs.Common.{◌≡◌, length}
use Rattle.lister.proofs.write_lines.Given as goal

abbrev pub invariant-loop-left : goal.invariant-loop-left
invariant-loop-left l = length l.out ≡ 65536

abbrev pub decreases-loop-left : goal.decreases-loop-left
decreases-loop-left l = l.left.count
