-- What a call of C leaves, by the answer of the operation.
-- Assumes nothing.
use Rattle.std.proofs.Common.{◌≡◌, ℕ, List, ℤ, Result, Ok, Err, IfOk, true, refl, sym, ap, ◌∙◌}
use Rattle.base.specs.Answers.{number_of, number_of_answer}
use Rattle.base.specs.declared.refusal.Refusal.{Refusal}
use Rattle.base.proofs.Faults.{answered, refused_with}
use Rattle.base.proofs.Refused.{refused_not_taken}
use Rattle.chip.specs.Read.{acknowledge_answer}
use Rattle.chip.specs.Run.{run_answer}
use Rattle.chip.specs.Types.{Written, Acknowledged, Ran}
use Rattle.chip.specs.Validity.{valid}
use Rattle.chip.specs.Write.{write_answer}
use Rattle.chip_numbers.specs.Chips.{chip_numbers, chip_of}
use Rattle.chip_numbers.specs.Types.{Chip}
use Rattle.capi.specs.Operations.{numbers_after, settled, SaysNext}

-- what is known of an answer: its number, the numbers that it leaves, and that they say the chip
pub record Settles (s new : List ℤ) (a : Result Chip Refusal) (n : ℕ) (c : Chip) : Type 0 where
  pub number : number_of_answer a ≡ n
  pub after : settled s a ≡ numbers_after s n c
  pub says : SaysNext new n c

-- by the record that an answer gives, of which it has the number and the chip
module _ {A : Type 0} (refusal : A → ℕ) (chip : A → Chip) (answer : Result Chip Refusal → A)
    (taken : (next : Chip) → (refusal (answer (Ok next)) ≡ 0) × (chip (answer (Ok next)) ≡ next))
    (refused : (r : Refusal) → refusal (answer (Err r)) ≡ number_of r) where
  pub settles : (s new : List ℤ) (a : Result Chip Refusal) {w : A} → answer a ≡ w → IfOk a (λ next. valid next ≡ true → chip_of new ≡ next)
      → (refusal w ≡ 0 → valid (chip w) ≡ true) → Settles s new a (refusal w) (chip w)
  settles s new (Ok next) {w} e h v =
      let n : 0 ≡ refusal w = sym (taken next).0 ∙ ap refusal e in
      let c : next ≡ chip w = sym (taken next).1 ∙ ap chip e in
      record {
        number = n;
        after = answered n (λ r. s) (chip_numbers (chip w)) refl (ap chip_numbers c);
        says = λ z. h (ap valid c ∙ v z) ∙ c;
      }
  settles s new (Err r) {w} e h v =
      let n : number_of r ≡ refusal w = sym (refused r) ∙ ap refusal e in
      record {
        number = n;
        after = refused_with n (λ r. s) (chip_numbers (chip w)) (refused_not_taken r) refl;
        says = λ z. absurd (refused_not_taken r (n ∙ z));
      }

pub settles_write : (s new : List ℤ) (c : Chip) (a : Result Chip Refusal) {w : Written} → write_answer c a ≡ w
    → IfOk a (λ next. valid next ≡ true → chip_of new ≡ next) → (w.refusal ≡ 0 → valid w.chip ≡ true) → Settles s new a w.refusal w.chip
settles_write s new c a e h v =
    settles (λ (w : Written). w.refusal) (λ (w : Written). w.chip) (write_answer c) (λ next. (refl, refl)) (λ r. refl) s new a e h v

pub settles_acknowledge : (s new : List ℤ) (c : Chip) (a : Result Chip Refusal) {w : Acknowledged} → acknowledge_answer c a ≡ w
    → IfOk a (λ next. valid next ≡ true → chip_of new ≡ next) → (w.refusal ≡ 0 → valid w.chip ≡ true) → Settles s new a w.refusal w.chip
settles_acknowledge s new c a e h v =
    settles (λ (w : Acknowledged). w.refusal) (λ (w : Acknowledged). w.chip) (acknowledge_answer c) (λ next. (refl, refl)) (λ r. refl) s new a e h v

pub settles_run : (s new : List ℤ) (c : Chip) (a : Result Chip Refusal) {w : Ran} → run_answer c a ≡ w
    → IfOk a (λ next. valid next ≡ true → chip_of new ≡ next) → (w.refusal ≡ 0 → valid w.chip ≡ true) → Settles s new a w.refusal w.chip
settles_run s new c a e h v =
    settles (λ (w : Ran). w.refusal) (λ (w : Ran). w.chip) (run_answer c) (λ next. (refl, refl)) (λ r. refl) s new a e h v

-- of a chip that powers up
pub says_fresh : (new : List ℤ) (a : Result Chip Refusal) {n : ℕ} {fresh : Chip} → number_of_answer a ≡ n → IfOk a (λ next. next ≡ fresh)
    → IfOk a (λ next. valid next ≡ true → chip_of new ≡ next) → valid fresh ≡ true → SaysNext new n fresh
says_fresh new (Ok next) e f h v = λ z. h (ap valid f ∙ v) ∙ f
says_fresh new (Err r) e f h v = λ z. absurd (refused_not_taken r (e ∙ z))
