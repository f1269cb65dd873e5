use mathlib.Core.Path.{◌∙◌, ap}
use Rattle.base.proofs.Refused.{passed_on}
use Rattle.rates.specs.Walks.{rated_taken_answer}
use Rattle.rates.proofs.Answers.{with_numbers, take_refused}
use Rattle.rates.proofs.walks.frame_taken.Goals as goal

pub returns-in_err-rate_fault : goal.returns-in_err-rate_fault
returns-in_err-rate_fault c =
    let both = with_numbers (ap rated_taken_answer (passed_on _ _ c.from_residual.ensures.1) ∙ take_refused 6 _ _ _ _ c.in_err-rate_fault.ensures) in
    record { value = both.0; frame_numbers = both.1 }
