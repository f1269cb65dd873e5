use Rattle.std.proofs.Common.{rules, refl, ap, ◌∙◌}
use mir.Syntax.{w16}
use Rattle.base.proofs.Faults.{answered, refused_with}
use Rattle.base.proofs.Range.{back_at}
use Rattle.base.proofs.Refused.{refused_not_taken}
use Rattle.reports.specs.Reports.{report_number, report_frame}
use Rattle.chip.specs.Step.{not_stepped, step_of}
use Rattle.chip.specs.Types.{Stepped}
use Rattle.chip.specs.Validity.{valid}
use Rattle.chip_numbers.specs.Chips.{chip_numbers, chip_of}
use Rattle.answer_numbers.specs.Answers.{frame_bytes, step_bits}
use Rattle.capi.proofs.Valid.{step_valid}
use Rattle.capi.proofs.operations.tms_step.Goals as goal

pub returns-in-Err : goal.returns-in-Err
unfolding step_of
returns-in-Err c =
    let some = refused_not_taken c.in-Err.refusal in
    let w = refused_with (rw c.chip_of-held.ensures at c.in-Err.ensures) (not_stepped (chip_of c.args.chip.now)) _ some refl in
    let n = ap (λ (w : Stepped). w.refusal) w in
    record {
      value = c.number.ensures ∙ n;
      chip_after = refused_with n (λ r. c.args.chip.now) _ some refl;
      says_next = λ z. absurd (some (n ∙ z));
      sample_after = ap (λ (w : Stepped). w.sample) w;
      report_after = ap (λ (w : Stepped). report_number w.report) w;
      frame_after = ap (λ (w : Stepped). frame_bytes (report_frame w.report) w.details.rate) w;
      bits_after = ap (λ (w : Stepped). step_bits w.details) w;
    }

pub returns : goal.returns
unfolding step_of
returns c =
    let e = rw c.chip_of-held.ensures at c.in_default.ensures in
    let w = answered e (not_stepped (chip_of c.args.chip.now)) _ refl (rw c.chip_of-held.ensures at c.take_step-stepped.ensures) in
    let n = ap (λ (w : Stepped). w.refusal) w in
    let g = rw (c.numbers.ensures, c.frame.ensures) at c.with_rate.ensures in
    record {
      value = n;
      chip_after = answered n (λ r. c.args.chip.now) _ refl (c.numbers_of.ensures.value ∙ ap (λ (w : Stepped). chip_numbers w.chip) w);
      says_next = λ z.
          c.numbers_of.ensures.comes_back (ap (λ (w : Stepped). valid w.chip) w ∙ step_valid c.args.image.now c.args.voice.now (chip_of c.args.chip.now) z)
          ∙ ap (λ (w : Stepped). w.chip) w;
      sample_after = back_at w16 _ (search rules) ∙ ap (λ (w : Stepped). w.sample) w;
      report_after = c.number-2.ensures ∙ ap (λ (w : Stepped). report_number w.report) w;
      frame_after = g ∙ ap (λ (w : Stepped). frame_bytes (report_frame w.report) w.details.rate) w;
      bits_after = c.step_bits.ensures ∙ ap (λ (w : Stepped). step_bits w.details) w;
    }
