use Prim.Native.Nat.{◌^◌}
use Rattle.base.proofs.Range.{read, sum, difference, quotient}
use Rattle.sound.proofs.interpolation.toward.Goals as goal

pub returns : goal.returns
returns c =
    let d = difference c.requires.1 c.requires.0 in
    let q = quotient d (2 ^ c.args.shift) in
    simp (read tt c.requires.0, read tt c.requires.1, read tt d, read tt q, read tt (sum c.requires.0 q))
