-- All are inside if those passed are and those left are.
use Rattle.std.proofs.Common.{◌≡◌, ◌&&◌, drop}
use Rattle.base.specs.Range.{all_inside}
use Rattle.filter.proofs.range.all_inside.Given as goal

abbrev pub invariant-loop-z : goal.invariant-loop-z
invariant-loop-z l = all_inside l.low l.high l.z-items ≡ (l.all && all_inside l.low l.high (drop l.z-index l.z-items))
