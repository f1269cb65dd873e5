use mathlib.Core.Path.{◌∙◌, ap}
use Rattle.base.proofs.Refused.{passed_on}
use Rattle.rom.specs.Phrases.{walk_answer}
use Rattle.rates.proofs.Answers.{walk_refused_lem, walk_answered}
use Rattle.rates.proofs.walks.walk.Goals as goal

pub returns-in_err-rate_fault : goal.returns-in_err-rate_fault
returns-in_err-rate_fault c =
    ap walk_answer (passed_on _ _ c.from_residual.ensures.1) ∙ walk_refused_lem _ _ _ _ _ c.in_err-rate_fault.ensures

pub returns : goal.returns
returns c =
    walk_answered _ _ _ _ c.in_ok-rate_fault.ensures c.walk_from.ensures
