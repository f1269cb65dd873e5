use Rattle.std.proofs.Common.{rules}
use Rattle.rom.proofs.Checks.{valid_length}
use Rattle.voice.specs.Check.{version}
use Rattle.control.proofs.Ranges.{control_in_ranges}
use Rattle.chip.proofs.Ranges.{chip_ranges}
use Rattle.chip.proofs.Stepping.{Passed, passed, step_taken_is}
use Rattle.chip.proofs.KeptValid.{kept}
use Rattle.chip.proofs.state.Chip.take_step.Goals as goal

pub advance-moved-requires : goal.advance-moved-requires
advance-moved-requires c =
    let p : Passed c.args.image.now c.args.voice.now c.args.self = passed _ _ _ c.requires in
    ((valid_length c.args.image.now p.image_valid_lem).1, control_in_ranges _ (chip_ranges _ p.chip_valid).control)

pub apply-sampled-requires : goal.apply-sampled-requires
apply-sampled-requires c =
    let p : Passed c.args.image.now c.args.voice.now c.args.self = passed _ _ _ c.requires in
    ((version, p.voice_valid), rw c.advance-moved.ensures (kept _ _ _ p).playable, (chip_ranges _ p.chip_valid).sound)

pub returns : goal.returns
returns c =
    step_taken_is c.args.image.now c.args.voice.now c.args.self c.advance-moved.ensures c.apply-sampled.ensures (search rules)
