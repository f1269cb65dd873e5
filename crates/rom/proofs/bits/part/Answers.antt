use Rattle.rom.proofs.Words.{one_shifted, part_is}
use Rattle.rom.proofs.bits.part.Goals as goal

pub returns : goal.returns
returns c =
    λ s at h. rw (one_shifted c.args.width c.requires.0) (part_is s _ at _ _ h c.requires.1)
