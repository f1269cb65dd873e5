use native.Mathlib.Omega.{arith}
use Rattle.std.proofs.lemmas.Int.{ints}
use Rattle.base.specs.Range.{clamped}
use Rattle.trace_state.proofs.numbers.short.Goals as goal

pub returns : goal.returns
unfolding clamped
returns c = grind (arith, ints, c.clamp.ensures.value)
