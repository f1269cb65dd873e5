use Rattle.chip.proofs.Ranges.{chip_ranges, valid_clock}
use Rattle.chip.proofs.state.Chip.play_on.Goals as goal

pub count_by-clock-requires : goal.count_by-clock-requires
count_by-clock-requires c =
    let r = valid_clock c.args.self c.requires.0 in (r.0, r.1, rw c.of-passed.ensures c.requires.1)

pub play-requires : goal.play-requires
play-requires c =
    (chip_ranges c.args.self c.requires.0).sound
