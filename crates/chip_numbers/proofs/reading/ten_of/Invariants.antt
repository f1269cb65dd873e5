use mathlib.Core.Path.{◌≡◌}
use mathlib.Core.List.{map}
use lib.ListN.{length, take, drop}
use Rattle.chip_numbers.proofs.reading.ten_of.Given as goal

abbrev pub invariant-loop-i : goal.invariant-loop-i
invariant-loop-i g l = (length l.z-items ≡ 10) × (take l.i l.z-items ≡ map g.N.NumberList.reading.signed (take l.i (drop l.at (g.N.NumberList.list l.numbers))))
