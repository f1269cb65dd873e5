-- What a valid chip returns on a valid image: an idle chip's obeyed command, a step and a run by their voice file, a written
-- byte by the refusal table, a read with the status.
-- Assumes nothing.
use mathlib.Core.Path.{◌≡◌, refl, sym, ap}
use mathlib.Core.Bool.{true, false, Bool, not, cond}
use mathlib.Core.List.{List, [], ◌∷◌}
use Prim.Native.Nat.{ℕ}
use borrow.Author.Tests.{eqb-true, not-false}
use lib.Dec.{eqb}
use Rattle.rom.specs.Bits.{image_valid}
use Rattle.control.specs.Commands.{command_of, beyond_at, waits, beyond}
use Rattle.control.specs.declared.state.Mode.TheVariants.{Idle}
use Rattle.control.specs.declared.commands.Command.{Command}
use Rattle.bus.specs.Commands.{obeyed}
use Rattle.bus.proofs.Kept.{in_mode}
use Rattle.chip.specs.Validity.{valid}
use Rattle.chip.specs.Write.{command_fault, write_fault, after_byte, write_of}
use Rattle.chip.specs.declared.state.Chip.{Chip}
use Rattle.chip.proofs.BusCalls.{write_taken}
use Rattle.base.specs.Refusals.{WAIT, BEYOND, first_fault}
use Rattle.base.specs.Steps.{state_after}
use Rattle.base.proofs.Booleans.{by_test}
use Rattle.control.specs.Status.{status_of, acknowledged_port}
use Rattle.control.specs.declared.state.Port.{Port}
use Rattle.control.specs.declared.state.Control.{Control}
use Rattle.chip.specs.Read.{look_of, acknowledged, acknowledge_of, read_of}
use Rattle.chip.specs.Step.{step_taken, step_fault, not_stepped, step_of}
use Rattle.chip.specs.Run.{sample_step, not_run, run_of}
use Rattle.claims.specs.Device.{fault_of, mode_of, talk_status}

-- a command that is not beyond the image is taken and obeyed
pub obeys : (image : List ℕ) (c : Chip) (b : ℕ) (k : Command) → image_valid image ≡ true → valid c ≡ true → c.control.mode ≡ Idle
    → c.control.port.busy.0 ≡ 0 → command_of b ≡ k → beyond_at image c.control.address.position k ≡ false
    → write_of image c b ≡ record { chip = after_byte c (obeyed image c.control b k); refusal = 0 }
unfolding command_fault
obeys image c b k i v m q e n =
    sym (write_taken image c b (sym fault) refl (in_mode image c.control b m (sym (ap (obeyed image c.control b) e))) refl)
  where
    fault : write_fault image c b ≡ 0
    fault = rw (i, v, m, q, e, n)

module _ (image voice : List ℕ) (c : Chip) (i : image_valid image ≡ true) (v : valid c ≡ true) where
  -- the fault of a step is that of its voice file
  step_fault_lem : step_fault image voice c ≡ fault_of voice
  unfolding step_fault
  step_fault_lem =
      rw (i, v) (by_test (λ n. n ≡ fault_of voice) (not (eqb (fault_of voice) 0)) (λ e. refl) (λ e. sym (eqb-true (fault_of voice) 0 (not-false _ e))))

  pub step_by_voice : {t : Bool} → eqb (fault_of voice) 0 ≡ t → step_of image voice c ≡ cond t (step_taken image voice c) (not_stepped c (fault_of voice))
  unfolding step_of
  step_by_voice e = rw (step_fault_lem, e)

  pub run_by_voice : (n : ℕ) {t : Bool} → eqb (fault_of voice) 0 ≡ t
      → run_of image voice c n ≡ cond t (record { chip = state_after (sample_step image voice) n c; refusal = 0 }) (not_run c (fault_of voice))
  unfolding run_of
  run_by_voice n e = rw (step_fault_lem, e)

pub write_fault_lem : (image : List ℕ) (c : Chip) (b : ℕ) → image_valid image ≡ true → valid c ≡ true → c.control.port.busy.0 ≡ 0
    → write_fault image c b
    ≡ first_fault ((waits c.control.mode c.control.fifo.level (command_of b), WAIT) ∷
    (beyond c.control.mode image c.control.address.position (command_of b), BEYOND) ∷ [])
unfolding command_fault
write_fault_lem image c b i v q = rw (i, v, q)

module _ (c : Chip) (v : valid c ≡ true) where
  pub read_taken : (read_of c).refusal ≡ 0
  unfolding read_of look_of acknowledge_of
  read_taken = rw (v, v)

  pub read_status : c.control.port.pending ≡ false → (read_of c).byte ≡ status_of c.control
  unfolding read_of look_of acknowledge_of
  read_status p = rw (v, p)

  pub read_chip : (read_of c).chip ≡ record { control = acknowledged c.control; sound = c.sound }
  unfolding read_of look_of acknowledge_of
  read_chip = rw (v, v)

pub still_none : (p : Port) → p.pending ≡ false → (acknowledged_port p).pending ≡ false
still_none p e = rw e

pub still_busy : (p : Port) → (acknowledged_port p).busy ≡ p.busy
still_busy p = by_test (λ (q : Port). q.busy ≡ p.busy) p.pending (λ e. refl) (λ e. refl)

-- the status: BL and BE are set, and TS with the mode
pub status_is : (t : Bool) (k : Control) → k.mode ≡ mode_of t → k.fifo.level ≡ 0 → status_of k ≡ talk_status t
status_is true k m l = rw (m, l)
status_is false k m l = rw (m, l)
