use Rattle.std.proofs.Common.{◌∙◌}
use Rattle.rom.proofs.Words.{swapped_is}
use Rattle.rom.proofs.bits.word_in.Goals as goal

pub returns : goal.returns
returns c =
    c.from.ensures ∙ c.swap_bytes.ensures ∙ swapped_is _ c.type_inv.s _ c.from_le_bytes.ensures
