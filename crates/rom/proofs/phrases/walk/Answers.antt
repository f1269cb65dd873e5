use mathlib.Core.Path.{◌∙◌, ap}
use Rattle.base.proofs.Refused.{passed_on}
use Rattle.rom.specs.Phrases.{walk_answer}
use Rattle.rom.proofs.Plain.{plain_walked}
use Rattle.rom.proofs.Theorems.{walk_refused_lem, walk_answered}
use Rattle.rom.proofs.phrases.walk.Goals as goal

pub returns-in_err-image_fault : goal.returns-in_err-image_fault
returns-in_err-image_fault c =
    ap walk_answer (passed_on _ _ c.from_residual.ensures.1) ∙ walk_refused_lem _ _ _ _ c.in_err-image_fault.ensures

pub returns : goal.returns
returns c =
    walk_answered _ _ _ c.in_ok-image_fault.ensures (c.walk_from.ensures ∙ plain_walked _ _ _)
