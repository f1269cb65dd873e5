use mathlib.Core.Path.{◌∙◌}
use Rattle.rates.proofs.Answers.{accepted_room, phrase_is}
use Rattle.rates.proofs.walks.phrase.Goals as goal

pub part_walked-requires : goal.part_walked-requires
part_walked-requires c = accepted_room _ _ _ _ _ c.walk.ensures

pub returns : goal.returns
returns c =
    c.part_walked.ensures ∙ phrase_is _ _ _ _ c.walk.ensures
