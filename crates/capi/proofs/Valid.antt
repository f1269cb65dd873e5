-- A call that is taken leaves a valid chip, and so numbers that say it.
-- Assumes nothing.
use mathlib.Core.Path.{◌≡◌, refl, sym, ap, ◌∙◌}
use mathlib.Core.Bool.{true, not}
use mathlib.Core.List.{List, [], ◌∷◌}
use Prim.Native.Nat.{ℕ}
use borrow.Author.Tests.{not-false}
use lib.Dec.{eqb}
use lib.IntN.{ℤ}
use Rattle.base.specs.Refusals.{STATE, unless_fault}
use Rattle.base.proofs.Booleans.{by_test}
use Rattle.base.proofs.Faults.{none_applies, by_fault}
use Rattle.chip.specs.Read.{read_fault, not_acknowledged, acknowledge_of, look_of, read_of}
use Rattle.chip.specs.Run.{not_run, run_of}
use Rattle.chip.specs.State.{power_up_of}
use Rattle.chip.specs.Step.{step_taken, step_fault, not_stepped, step_of}
use Rattle.chip.specs.Validity.{valid}
use Rattle.chip.specs.Write.{write_fault, not_written, write_of}
use Rattle.chip.specs.Types.{Acknowledged}
use Rattle.chip.specs.Types.{Ran}
use Rattle.chip.specs.Types.{Stepped}
use Rattle.chip.specs.Types.{Written}
use Rattle.chip.proofs.BusCalls.{found}
use Rattle.chip.proofs.Stepping.{passed}
use Rattle.chip.proofs.KeptValid.{power_up_valid, write_keeps_valid, acknowledge_keeps_valid, step_keeps_valid, run_keeps_valid}
use Rattle.chip_numbers.specs.Types.{Device, Chip}
use Rattle.capi.specs.Operations.{SaysNext, order_named, power_up_named}

pub power_up_named_valid : (d o : ℕ) → valid (power_up_named d o) ≡ true
power_up_named_valid d o =
    let p = power_up_valid (order_named o) in
    by_test (λ (k : Device). valid (power_up_of k (order_named o)) ≡ true) (eqb d 0) (λ t. p.0) (λ t. p.1)

-- a call that is taken has no fault
taken : {A : Type 0} (refusal : A → ℕ) (n : ℕ) (refused : ℕ → A) (answer : A) → refusal (refused n) ≡ n
    → refusal (unless_fault n refused answer) ≡ 0 → n ≡ 0
taken refusal n refused answer r =
    by_fault (λ a. refusal a ≡ 0 → n ≡ 0) n refused answer (λ e h. e) (λ e h. absurd (e (sym r ∙ h)))

pub write_valid : (image : List ℕ) (c : Chip) (b : ℕ) → (write_of image c b).refusal ≡ 0 → valid (write_of image c b).chip ≡ true
unfolding write_of
write_valid image c b h =
    let e = taken (λ (w : Written). w.refusal) (write_fault image c b) (not_written c) _ refl h in
    write_keeps_valid image c b (found image c b e).chip_valid

pub acknowledge_valid : (c : Chip) → (acknowledge_of c).refusal ≡ 0 → valid (acknowledge_of c).chip ≡ true
unfolding acknowledge_of
acknowledge_valid c h =
    let e = taken (λ (a : Acknowledged). a.refusal) (read_fault c) (not_acknowledged c) _ refl h in
    acknowledge_keeps_valid c (not-false _ (none_applies ((not (valid c), STATE) ∷ []) tt e).0)

pub read_valid : (c : Chip) → (read_of c).refusal ≡ 0 → valid (read_of c).chip ≡ true
unfolding read_of
read_valid c h = acknowledge_valid (look_of c).chip h

pub step_number : (image voice : List ℕ) (c : Chip) → (step_of image voice c).refusal ≡ step_fault image voice c
unfolding step_of step_taken
step_number image voice c =
    by_fault (λ (s : Stepped). s.refusal ≡ step_fault image voice c) (step_fault image voice c) (not_stepped c) _ (λ e. sym e) (λ h. refl)

pub step_valid : (image voice : List ℕ) (c : Chip) → (step_of image voice c).refusal ≡ 0 → valid (step_of image voice c).chip ≡ true
unfolding step_of
step_valid image voice c h =
    let e = taken (λ (s : Stepped). s.refusal) (step_fault image voice c) (not_stepped c) _ refl h in
    step_keeps_valid image voice c (passed image voice c e).chip_valid

pub run_valid : (image voice : List ℕ) (c : Chip) (n : ℕ) → (run_of image voice c n).refusal ≡ 0 → valid (run_of image voice c n).chip ≡ true
unfolding run_of
run_valid image voice c n h =
    let e = taken (λ (r : Ran). r.refusal) (step_fault image voice c) (not_run c) _ refl h in
    run_keeps_valid image voice c n (passed image voice c e).chip_valid

-- what the code found is what the definition gives, whose chip is valid where it is taken
pub says : {A : Type 0} {x y : A} (refusal : A → ℕ) (chip : A → Chip) (s : List ℤ) → x ≡ y
    → (valid (chip x) ≡ true → SaysNext s (refusal x) (chip x)) → (refusal y ≡ 0 → valid (chip y) ≡ true) → SaysNext s (refusal y) (chip y)
says refusal chip s e n v h = n (ap (λ a. valid (chip a)) e ∙ v h) (ap refusal e ∙ h) ∙ ap chip e
