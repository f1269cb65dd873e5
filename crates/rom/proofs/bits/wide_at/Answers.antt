use Rattle.rom.specs.Window.{wide}
use Rattle.rom.proofs.Words.{window_is}
use Rattle.rom.proofs.bits.wide_at.Goals as goal

pub returns : goal.returns
returns c =
    window_is _ wide _ c.be64.ensures
