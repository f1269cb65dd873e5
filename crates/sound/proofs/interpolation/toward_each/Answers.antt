-- Each call of the closure leaves it as it is, and gives the moved value at its index.
use borrow.Author.Rules.{rules}
use Prim.Native.Nat.{◌^◌}
use lib.IntN.{pos}
use Rattle.sound.specs.Interpolation.{toward_by}
use Rattle.sound.proofs.Zipped.{zip_called}
use Rattle.sound.proofs.interpolation.toward_each.Goals as goal

pub returns : goal.returns
returns c =
    zip_called (toward_by (2 ^ c.args.shift)) _ _ (pos 0) c.args.current c.args.target c.from_fn.result 10 (λ i y q l k. (search rules, search rules))
    c.requires.0.size c.requires.1.size c.from_fn.ensures.items
