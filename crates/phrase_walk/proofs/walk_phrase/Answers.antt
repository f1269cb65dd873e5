-- What the walk ensures is what `part_of` asks, and what the part is.
use Rattle.std.proofs.Common.{◌∙◌, Ok, refl, sym, ap}
use Rattle.base.proofs.Refused.{passed_on}
use Rattle.rom.specs.Phrases.{walk_answer}
use Rattle.rom.proofs.Theorems.{phrase_room, phrase_is}
use Rattle.phrase_walk.proofs.Parts.{part_refused}
use Rattle.phrase_walk.proofs.walk_phrase.Goals as goal

pub returns-in_err-walk : goal.returns-in_err-walk
returns-in_err-walk c =
    rw (passed_on _ _ c.from_residual.ensures.1)
    (c.in_err-walk.ensures, sym (part_refused c.args.image.now c.args.address c.in_err-walk.field-0.0 0) ∙ phrase_is _ _ _ c.in_err-walk.ensures)

pub found-requires : goal.found-requires
found-requires c = phrase_room _ _ _ c.in_ok-walk.ensures refl

pub returns : goal.returns
returns c =
    (ap (λ e. walk_answer (Ok e)) c.found.ensures.0 ∙ c.in_ok-walk.ensures, c.found.ensures.1 ∙ phrase_is _ _ _ c.in_ok-walk.ensures)
