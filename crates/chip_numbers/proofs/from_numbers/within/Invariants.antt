use mathlib.Core.Path.{◌≡◌}
use mathlib.Core.Bool.{◌&&◌}
use Prim.Native.Nat.{◌+◌}
use lib.ListN.{drop}
use Rattle.chip_numbers.specs.Chips.{within}
use Rattle.chip_numbers.proofs.from_numbers.within.Given as goal

abbrev pub invariant-loop-i : goal.invariant-loop-i
invariant-loop-i l = within l.limits (drop l.at l.numbers) ≡ (l.all && within (drop l.i l.limits) (drop (l.at + l.i) l.numbers))
