use Rattle.control.proofs.Busy.{less_keeps_valid}
use Rattle.speech.proofs.advance.advance.Goals as goal

pub advance_from-requires : goal.advance_from-requires
advance_from-requires c =
    (c.requires.0, rw (c.less_busy.ensures, c.of.ensures) (less_keeps_valid _ _ c.requires.1))
