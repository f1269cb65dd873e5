use mathlib.Core.Path.{◌≡◌}
use mathlib.Core.List.{map}
use lib.ListN.{take, drop}
use Rattle.chip_numbers.proofs.reading.held_of.Given as goal

abbrev pub invariant-loop-i : goal.invariant-loop-i
invariant-loop-i g l = take l.i l.byte-items ≡ map g.N.NumberList.reading.byte (take l.i (drop 8 (g.N.NumberList.list l.numbers)))
