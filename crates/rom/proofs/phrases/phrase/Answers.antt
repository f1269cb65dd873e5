use mathlib.Core.Path.{◌∙◌}
use Rattle.rom.proofs.Theorems.{accepted_room, phrase_is}
use Rattle.rom.proofs.phrases.phrase.Goals as goal

pub part_walked-requires : goal.part_walked-requires
part_walked-requires c = accepted_room _ _ _ _ c.walk.ensures

pub returns : goal.returns
returns c =
    c.part_walked.ensures ∙ phrase_is _ _ _ c.walk.ensures
