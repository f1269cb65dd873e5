-- What is left of the image's bits.
use mathlib.Core.Path.{◌≡◌}
use Prim.Native.Nat.{◌*◌, ◌-◌, ◌≤◌}
use lib.ListN.{length}
use Rattle.rom.proofs.Walking.{Come}
use Rattle.rom.proofs.phrases.walk_from.Given as goal

abbrev pub invariant-loop-frame : goal.invariant-loop-frame
invariant-loop-frame g l =
    let F = g.F.FrameForm.form l.form in
    ((l.prefix ≡ F.prefix) × (l.pitch ≡ F.pitch) × (l.skipped ≤ 8 * l.count)) × Come F l.image l.start l.at l.count (8 * l.count - l.skipped)

abbrev pub decreases-loop-frame : goal.decreases-loop-frame
decreases-loop-frame g l = 8 * length l.image - l.at
