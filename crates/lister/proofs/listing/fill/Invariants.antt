use Rattle.std.proofs.Common.{◌≡◌, length}
use Rattle.lister.proofs.Filling.{Filling}
use Rattle.lister.proofs.listing.fill.Given as goal

abbrev pub invariant-loop-left : goal.invariant-loop-left
invariant-loop-left l = Filling l.image l.initial.left.bit l.initial.left.count l.out l.used l.left.bit l.left.count × (length l.out ≡ length l.initial.out)

abbrev pub decreases-loop-left : goal.decreases-loop-left
decreases-loop-left l = l.left.count
