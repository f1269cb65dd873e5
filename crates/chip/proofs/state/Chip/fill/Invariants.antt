-- The buffer holds the samples of i steps, and the next has no fault.
use mathlib.Core.Path.{◌≡◌}
use Prim.Native.Nat.{◌-◌}
use lib.ListN.{length}
use Rattle.base.proofs.Steps.{Filled}
use Rattle.chip.specs.Types.{Chip}
use Rattle.chip.specs.Step.{step_fault}
use Rattle.chip.specs.Run.{sample_step}
use Rattle.chip.proofs.state.Chip.fill.Given as goal

abbrev pub invariant-loop-i : goal.invariant-loop-i
invariant-loop-i l = Filled (sample_step l.image l.voice) (λ (c : Chip). step_fault l.image l.voice c ≡ 0) l.initial.chip (length l.initial.out) l.out l.chip l.i

abbrev pub decreases-loop-i : goal.decreases-loop-i
decreases-loop-i l = length l.initial.out - l.i
