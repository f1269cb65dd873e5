use Rattle.std.proofs.Common.{◌∙◌}
use Rattle.rom.proofs.Words.{be_word_is}
use Rattle.rom.proofs.bits.be32_at_end.Goals as goal

pub returns : goal.returns
returns c =
    c.from.ensures ∙ c.from_be_bytes.ensures
    ∙ be_word_is _ c.type_inv.s c.args.n _ _ _ _ c.byte_at.ensures c.byte_at-2.ensures c.byte_at-3.ensures c.byte_at-4.ensures
