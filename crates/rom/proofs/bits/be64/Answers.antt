use mathlib.Core.Path.{◌∙◌}
use Rattle.rom.proofs.Words.{word_fits, words_are}
use Rattle.rom.proofs.bits.be64.Goals as goal

pub two_words-requires : goal.two_words-requires
two_words-requires c =
    (word_fits _ _ c.be32.ensures, word_fits _ _ c.be32-2.ensures)

pub returns : goal.returns
returns c =
    c.two_words.ensures ∙ words_are _ _ c.be32.ensures c.be32-2.ensures
