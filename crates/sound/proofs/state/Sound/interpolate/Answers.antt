use Rattle.sound.proofs.Validity.{ranges, params_valid_lem}
use Rattle.sound.proofs.state.Sound.interpolate.Goals as goal

pub toward-requires : goal.toward-requires
toward-requires c =
    let v = params_valid_lem (ranges c.args.self c.requires.0) in
    (v.0, v.1, c.shift_of.ensures.0)
