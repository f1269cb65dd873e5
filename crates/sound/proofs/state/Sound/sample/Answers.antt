-- One sample of a valid sound: each part in its range, and what the parts give is the sampled sound.
use borrow.Author.Rules.{rules}
use Rattle.sound.proofs.Samples.{sampled_is, filtered_takes, parts}
use Rattle.sound.proofs.Validity.{ranges}
use Rattle.sound.proofs.state.Sound.sample.Goals as goal

pub filtered-value-requires : goal.filtered-value-requires
filtered-value-requires c =
    filtered_takes _ _ _ (ranges _ c.requires) c.is_voiced-voiced.ensures c.excitation-x.ensures

pub next_noise-noise-requires : goal.next_noise-noise-requires
next_noise-noise-requires c =
    let ok = ranges c.args.self c.requires in
    search (rules, ok.noise_high)

pub next_pulse-pulse-requires : goal.next_pulse-pulse-requires
next_pulse-pulse-requires c = (ranges c.args.self c.requires).pulse

pub returns : goal.returns
returns c =
    let P = c.args.pitch_bits in
    let file = c.args.file.now in
    let s = c.args.self in
    let v = c.filtered-value in
    rw c.renew-sound.ensures
    (sampled_is P file s
    (parts P file s (ranges s c.requires) c.is_voiced-voiced.ensures c.excitation-x.ensures v.type_inv v.ensures.value v.ensures.memory_after
    c.next_noise-noise.ensures c.next_pulse-pulse.ensures))
