-- The bytes passed are in reverse.
use mathlib.Core.Path.{◌≡◌}
use mathlib.Core.List.{◌++◌, map}
use lib.ListN.{take, drop}
use Rattle.fifo.specs.Buffer.{reversed}
use Rattle.fifo.proofs.reverse_all.Given as goal

abbrev pub invariant-loop-byte : goal.invariant-loop-byte
invariant-loop-byte l = l.byte-items ≡ map reversed (take l.byte-index l.initial.byte-items) ++ drop l.byte-index l.initial.byte-items
