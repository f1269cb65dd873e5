-- No operation turns one device into the other.
-- Assumes nothing.
use mathlib.Core.Path.{refl, ap, ◌∙◌}
use mathlib.Core.List.{List}
use Prim.Native.Nat.{ℕ}
use Rattle.base.proofs.Faults.{by_fault}
use Rattle.base.proofs.Steps.{after_keeps}
use Rattle.control.specs.Device.{at_power_up}
use Rattle.bus.proofs.Kept.{kind_kept}
use Rattle.chip.specs.Types.{Chip, Written, Acknowledged, Stepped, Ran}
use Rattle.chip.specs.Write.{write_fault, not_written, write_of}
use Rattle.chip.specs.Read.{read_fault, look_of, not_acknowledged, acknowledge_of, read_of}
use Rattle.chip.specs.Step.{step_taken, step_fault, not_stepped, step_of}
use Rattle.chip.specs.Run.{sample_step, not_run, run_of}
use Rattle.chip.specs.Laws.{Alike, KindKept}
use Rattle.chip.proofs.BusCalls.{look_keeps}
use Rattle.chip.proofs.Stepping.{passed}
use Rattle.chip.proofs.KeptValid.{kept}

module _ (image : List ℕ) where
  write_alike : (c : Chip) (b : ℕ) → Alike (write_of image c b).chip c
  unfolding write_of
  write_alike c b = by_fault (λ (w : Written). Alike w.chip c) (write_fault image c b) (not_written c) _ (λ e. kind_kept image c.control b) (λ r. refl)

  look_alike : (c : Chip) → Alike (look_of c).chip c
  look_alike c = ap (λ (d : Chip). at_power_up d.control.device) (look_keeps c)

  acknowledge_alike : (c : Chip) → Alike (acknowledge_of c).chip c
  unfolding acknowledge_of
  acknowledge_alike c = by_fault (λ (a : Acknowledged). Alike a.chip c) (read_fault c) (not_acknowledged c) _ (λ e. refl) (λ r. refl)

  read_alike : (c : Chip) → Alike (read_of c).chip c
  unfolding read_of
  read_alike c = acknowledge_alike (look_of c).chip ∙ look_alike c

  module _ (voice : List ℕ) where
    step_alike : (c : Chip) → Alike (step_of image voice c).chip c
    unfolding step_of step_taken
    step_alike c =
        by_fault (λ (r : Stepped). Alike r.chip c) (step_fault image voice c) (not_stepped c) _
        (λ e. ap at_power_up (kept image voice c (passed image voice c e)).device) (λ r. refl)

    run_alike : (c : Chip) (n : ℕ) → Alike (run_of image voice c n).chip c
    unfolding run_of
    run_alike c n =
        by_fault (λ (r : Ran). Alike r.chip c) (step_fault image voice c) (not_run c) _
        (λ e. after_keeps (sample_step image voice) (λ (d : Chip). Alike d c) (λ d h. step_alike d ∙ h) n refl) (λ r. refl)

    pub kind_kept_by_all : (c : Chip) → KindKept image voice c
    kind_kept_by_all c = record { write = write_alike c; look = look_alike c; acknowledge = acknowledge_alike c; read = read_alike c; step = step_alike c; run = run_alike c }
