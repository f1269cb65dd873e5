-- Valid parameters are in the ranges that each interpolation asks.
use Rattle.base.proofs.Range.{passed, wider}
use Rattle.sound.proofs.Validity.{params_tested}
use Rattle.sound.proofs.params.Params.toward.Goals as goal

pub toward-requires-2 : goal.toward-requires-2
toward-requires-2 c =
    let from = params_tested 512 511 1023 c.args.self c.requires.0 in
    let to = params_tested 512 511 1023 c.args.target c.requires.1 in
    (passed tt (wider from.pitch tt tt), passed tt (wider to.pitch tt tt), c.requires.2)

pub toward_each-requires : goal.toward_each-requires
toward_each-requires c =
    ((params_tested 512 511 1023 c.args.self c.requires.0).k, (params_tested 512 511 1023 c.args.target c.requires.1).k, c.requires.2)
