-- The core: the chip is a device of demand 3's list, so that a chip that is ready takes Speak and then gives every list of calls
-- the answers that are due.
-- Assumes nothing.
use mathlib.Core.Path.{◌≡◌, refl, sym, ap, ap₂, ◌∙◌, subst}
use mathlib.Core.Bool.{true}
use mathlib.Core.List.{List, [], ◌∷◌}
use Prim.Native.Nat.{ℕ, zero, suc, ◌+◌, ◌*◌, ◌≤◌, ◌<◌}
use native.Mathlib.Omega.{arith}
use borrow.Author.Tests.{eq-eqb, ne_eqb, le-leb}
use lib.Dec.{eqb}
use lib.ListN.{length}
use Rattle.base.specs.declared.units.Samples.{Samples}
use Rattle.base.specs.Refusals.{WAIT, BEYOND, first_fault}
use Rattle.base.specs.Steps.{state_after}
use Rattle.base.proofs.Booleans.{by_test}
use Rattle.rom.specs.Bits.{image_valid}
use Rattle.rom.specs.Frames.{pitch_width}
use Rattle.rates.specs.declared.rate.FrameRate.{FrameRate}
use Rattle.rates.proofs.Rates.{rate_keeps}
use Rattle.schedule.specs.Types.{Told, Speech}
use Rattle.schedule.specs.Speech.{talking_from, spoken}
use Rattle.schedule.specs.Calls.{Speaks}
use Rattle.schedule.proofs.Answering.{answers_due_lem}
use Rattle.control.specs.Validity.{speaks}
use Rattle.control.specs.Commands.{command_of, waits, beyond}
use Rattle.control.specs.declared.state.Mode.{Mode}
use Rattle.control.specs.declared.commands.Command.TheVariants.{Speak}
use Rattle.bus.specs.Commands.{obeyed}
use Rattle.chip.specs.Validity.{valid}
use Rattle.chip.specs.Write.{write_fault, after_byte, write_of}
use Rattle.chip.specs.Read.{acknowledged}
use Rattle.chip.specs.Step.{step_taken, not_stepped, step_of}
use Rattle.chip.specs.Run.{sample_step}
use Rattle.chip.specs.declared.state.Chip.{Chip}
use Rattle.chip.specs.Types.{Written}
use Rattle.chip.specs.Types.{Stepped}
use Rattle.control.proofs.Ranges.{mode_ranges}
use Rattle.chip.proofs.Ranges.{chip_ranges}
use Rattle.chip.proofs.BusCalls.{write_refused}
use Rattle.chip.proofs.KeptValid.{write_keeps_valid, read_keeps_valid, step_keeps_valid}
use Rattle.claims.specs.Device.{rated_form, step_gives, run_gives, write_gives, chip_on, fault_of, refused_as, chip_table}
use Rattle.claims.specs.Demand3.{SpeakByte}
use Rattle.claims.specs.Opening.{Ready, Core}
use Rattle.claims.proofs.Answers.{obeys, step_by_voice, run_by_voice, write_fault_lem, read_taken, read_status, read_chip, still_none, still_busy, status_is}
use Rattle.claims.proofs.Moves.{speech_of, Calm, moves}

-- a valid chip that speaks from ROM, at the rate r, or is idle
pub record Still (r : FrameRate) (c : Chip) : Type 0 where
  pub is_valid : valid c ≡ true
  pub calm : Calm r c.control

abbrev pub chip_speech : Chip → Speech
chip_speech c = speech_of c.control

module _ (image : List ℕ) (i : image_valid image ≡ true) (r : FrameRate) where
  -- ---- a step

  -- by its voice file
  module _ (voice : List ℕ) (c : Chip) (s : Still r c) where
    taken : fault_of voice ≡ 0 → step_of image voice c ≡ step_taken image voice c
    taken g = step_by_voice image voice c i s.is_valid (eq-eqb _ 0 g)

    refused : (fault_of voice ≡ 0 → ⊥) → step_of image voice c ≡ not_stepped c (fault_of voice)
    refused g = step_by_voice image voice c i s.is_valid (ne_eqb _ 0 g)

    -- taken, it is a step of the speech
    taken_calm : Calm r (step_taken image voice c).chip.control
    unfolding step_taken
    taken_calm = (moves image r c.control s.calm).calm

    taken_speech : chip_speech (step_taken image voice c).chip ≡ (spoken (rated_form r) image (chip_speech c)).speech
    unfolding step_taken
    taken_speech = (moves image r c.control s.calm).speech

    taken_answer : (step_gives (step_taken image voice c)).1 ≡ (0, (spoken (rated_form r) image (chip_speech c)).told)
    unfolding step_taken
    taken_answer = ap (λ (t : Told). (0, t)) (moves image r c.control s.calm).told

    still : Still r (step_of image voice c).chip
    still = record {
      is_valid = step_keeps_valid image voice c s.is_valid;
      calm = subst (λ (t : Stepped). Calm r t.chip.control) (sym (step_by_voice image voice c i s.is_valid refl))
          (by_test (λ (t : Stepped). Calm r t.chip.control) (eqb (fault_of voice) 0) (λ e. taken_calm) (λ e. s.calm));
    }

  -- the chip after steps, whatever else they give
  same_steps : (voice : List ℕ) (n : ℕ) (c : Chip) → state_after (sample_step image voice) n c ≡ state_after ((chip_on image).stepped voice) n c
  same_steps voice zero c = refl
  same_steps voice (suc n) c = same_steps voice n (step_of image voice c).chip

  -- ---- a read and a written byte

  read_calm : (c : Chip) → Still r c → Calm r (acknowledged c.control)
  read_calm c s = record {
    mode = s.calm.mode;
    level = s.calm.level;
    pending = still_none c.control.port s.calm.pending;
    busy = ap (λ (n : Samples). n.0) (still_busy c.control.port) ∙ s.calm.busy;
    rate = s.calm.rate;
  }

  number : (c : Chip) (b : ℕ) → Still r c → write_fault image c b ≡ refused_as image (chip_speech c).talking (chip_speech c).position b
  number c b s =
      write_fault_lem image c b i s.is_valid s.calm.busy
      ∙ ap₂ (λ (m : Mode) (l : ℕ). first_fault ((waits m l (command_of b), WAIT) ∷ (beyond m image c.control.address.position (command_of b), BEYOND) ∷ []))
      s.calm.mode s.calm.level

  -- ---- all of it

  pub chip_speaks : Speaks (rated_form r) (chip_table image) image (chip_on image) chip_speech (Still r)
  chip_speaks = record {
    position = λ c s. refl;
    step_still = still;
    step_speech = λ voice c s g. ap (λ (r : Stepped). chip_speech r.chip) (taken voice c s g) ∙ taken_speech voice c s;
    step_answer = λ voice c s g. ap (λ (r : Stepped). (step_gives r).1) (taken voice c s g) ∙ taken_answer voice c s;
    step_refused = λ voice c s g. ap step_gives (refused voice c s g);
    run_taken = λ voice n c s g.
        ap run_gives (run_by_voice image voice c i s.is_valid n (eq-eqb _ 0 g)) ∙ ap (λ (d : Chip). (d, 0)) (same_steps voice n c);
    run_refused = λ voice n c s g. ap run_gives (run_by_voice image voice c i s.is_valid n (ne_eqb _ 0 g));
    read_still = λ c s. record {
      is_valid = read_keeps_valid c s.is_valid;
      calm = subst (λ (d : Chip). Calm r d.control) (sym (read_chip c s.is_valid)) (read_calm c s);
    };
    read_speech = λ c s. ap chip_speech (read_chip c s.is_valid);
    read_byte = λ c s.
        ap₂ (λ (x y : ℕ). (x, y)) (read_taken c s.is_valid)
        (read_status c s.is_valid s.calm.pending ∙ status_is (speaks c.control.mode) c.control s.calm.mode s.calm.level);
    write_refused = λ b c s g. ap write_gives (sym (write_refused image c b (sym (number c b s)) g));
  }

-- a chip that is ready takes Speak
module _ (image : List ℕ) (a : ℕ) (i : image_valid image ≡ true) (inside : a < length image) (r : FrameRate) (c : Chip) (ready : Ready r a c)
    (s : SpeakByte) where
  spoke : write_of image c s.byte ≡ record { chip = after_byte c (obeyed image c.control s.byte Speak); refusal = 0 }
  spoke =
      obeys image c s.byte Speak i ready.is_valid ready.idle_mode ready.not_busy s.speak
      (rw (le-leb (c.control.address.position + 1) (8 * length image) (omega (arith, ready.at_byte))))

  empty : c.control.fifo.level ≡ 0
  empty = let f = (mode_ranges c.control.mode c.control.fifo (chip_ranges c ready.is_valid).control.fifo).at_most in let m : c.control.fifo.level ≤ 0 = rw ready.idle_mode at f in omega arith

  -- the chip that has taken it
  abbrev pub speaking_chip : Chip
  speaking_chip = (write_of image c s.byte).chip

  pub speaking_still : Still r speaking_chip
  speaking_still = record {
    is_valid = write_keeps_valid image c s.byte ready.is_valid;
    calm = subst (λ (w : Written). Calm r w.chip.control) (sym spoke) (record { mode = refl; level = empty; pending = refl; busy = ready.not_busy; rate = ready.at_rate });
  }

  pub speaking_begins : chip_speech speaking_chip ≡ talking_from (8 * a) c.control.clock
  speaking_begins =
      ap (λ (w : Written). chip_speech w.chip) spoke
      ∙ ap (λ (p : ℕ). talking_from p c.control.clock) ready.at_byte

pub core : Core
core image a i inside r c ready s = (
  ap (λ (w : Written). w.refusal) (spoke image a i inside r c ready s),
  λ is there.
      answers_due_lem (rated_form r) (rate_keeps r pitch_width) (chip_table image) image (chip_on image) chip_speech (Still r) (chip_speaks image i r) (8 * a) is there
      (speaking_chip image a i inside r c ready s) c.control.clock (speaking_still image a i inside r c ready s)
      (speaking_begins image a i inside r c ready s),
)
