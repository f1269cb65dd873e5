use borrow.Author.Rules.{rules}
use mathlib.Core.Path.{ap}
use lib.IntN.{ℤ}
use Rattle.base.proofs.Steps.{filled_none, filled_more}
use Rattle.sound.specs.Sample.{renewed, sound_step}
use Rattle.sound.specs.declared.state.Sound.{Sound}
use Rattle.sound.proofs.Samples.{step_is, filtered_takes, parts, sampled_ranges}
use Rattle.sound.proofs.Validity.{SoundRanges, ranges}
use Rattle.sound.proofs.state.Sound.play.Goals as goal

pub loop-value-init : goal.loop-value-init
loop-value-init c =
    filled_none (sound_step _ _) SoundRanges _ _ (ranges _ c.requires)

pub filtered-requires : goal.filtered-requires
filtered-requires c =
    filtered_takes _ _ _ c.loop-value.invariant.holds c.is_voiced-voiced.ensures c.excitation-x.ensures

pub loop-value-preserved : goal.loop-value-preserved
loop-value-preserved c =
    let P = c.args.pitch_bits in
    let file = c.args.file.now in
    let l = c.loop-value in
    let v = c.filtered in
    let s : Sound = renewed l.memory l.noise l.pulse c.args.self in
    let is =
    step_is P file s
    (parts P file s l.invariant.holds c.is_voiced-voiced.ensures c.excitation-x.ensures v.type_inv v.ensures.value v.ensures.memory_after
    c.next_noise-noise.ensures c.next_pulse-pulse.ensures) in
    filled_more _ _ _ l.invariant (search rules) is (rw (ap (λ (r : Sound × ℤ). r.0) is) (sampled_ranges P file s l.invariant.holds))
