use mathlib.Core.Path.{◌∙◌}
use native.Mathlib.Omega.{arith}
use Rattle.rom.specs.Window.{narrow}
use Rattle.rom.proofs.Words.{word_fits, window_is, lifted}
use Rattle.rom.proofs.bits.narrow_at.Goals as goal

pub returns : goal.returns
returns c =
    lifted _ _ (word_fits _ _ c.be32.ensures) (omega arith) ∙ window_is _ narrow _ c.be32.ensures
