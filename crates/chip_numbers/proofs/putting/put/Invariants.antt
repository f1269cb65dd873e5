use mathlib.Core.List.{map}
use Prim.Native.Nat.{◌+◌}
use lib.ListN.{take}
use Rattle.chip_numbers.specs.Putting.{Put}
use Rattle.chip_numbers.proofs.putting.put.Given as goal

abbrev pub invariant-loop-i : goal.invariant-loop-i
invariant-loop-i g l =
    Put (g.N.NumberList.list l.initial.numbers) l.at (map (g.F.Field.number g.N.NumberList.natural) (take l.i l.part)) (l.at + l.i) (g.N.NumberList.list l.numbers)
