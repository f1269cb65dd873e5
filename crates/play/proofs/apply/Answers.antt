-- The sound with the targets of the frame is valid, and so is the interval; and what is interpolated stays valid.
use mathlib.Core.Path.{subst}
use Rattle.reports.specs.Reports.{Playable}
use Rattle.sound.proofs.Laws.{stays_valid}
use Rattle.play.proofs.apply.Goals as goal

pub interpolate-requires : goal.interpolate-requires
interpolate-requires c =
    let p = subst (Playable c.args.pitch_bits) c.in-Begin.is c.requires.1 in
    let aimed = stays_valid.targets _ c.requires.0.0 c.args.voice.now c.in-Begin.frame c.args.sound c.requires.0.1 p.0 c.requires.2 in
    (rw c.set_targets.ensures aimed, p.1)

pub sample-requires : goal.sample-requires
sample-requires c =
    let p = subst (Playable c.args.pitch_bits) c.in-Begin.is c.requires.1 in
    let aimed = stays_valid.targets _ c.requires.0.0 c.args.voice.now c.in-Begin.frame c.args.sound c.requires.0.1 p.0 c.requires.2 in
    rw (c.interpolate.ensures, c.set_targets.ensures) (stays_valid.interpolation _ _ aimed)

pub sample-requires-in-Interpolate : goal.sample-requires-in-Interpolate
sample-requires-in-Interpolate c =
    rw c.interpolate-in-Interpolate.ensures (stays_valid.interpolation _ _ c.requires.2)
