-- What is proved of every operation: the ranges and the kind of the device are kept; a look changes nothing, and a read is what it was
-- before it was two; and a step's control and report depend on the image and the control alone.
use Rattle.std.specs.Prelude.{◌≡◌, true, false, cond, List, ℕ, eqb, pos, replicate}
use Rattle.base.specs.Refusals.{TAKEN}
use Rattle.base.specs.Steps.{state_after, outputs}
use Rattle.control.specs.Device.{SameKind}
use Rattle.control.specs.Status.{bus_byte}
use Rattle.chip.specs.Types.{BitOrder, Chip, Stepped}
use Rattle.chip.specs.State.{power_up_with, power_up_5220c_with}
use Rattle.chip.specs.Validity.{valid}
use Rattle.chip.specs.Write.{write_of}
use Rattle.chip.specs.Read.{look_of, acknowledge_of, read_of}
use Rattle.chip.specs.Step.{step_taken, step_fault, step_of}
use Rattle.chip.specs.Run.{sample_step, silent_on, run_of}

-- The power-up states are valid, in either order of the FIFO's bits.
abbrev pub PowerUpValid : Type 0
PowerUpValid = (o : BitOrder) → (valid (power_up_with o) ≡ true) × (valid (power_up_5220c_with o) ≡ true)

-- A valid chip stays valid under every written byte, taken or refused.
abbrev pub WriteKeepsValid : Type 0
WriteKeepsValid = (image : List ℕ) (c : Chip) (b : ℕ) → valid c ≡ true → valid (write_of image c b).chip ≡ true

-- and under every acknowledge
abbrev pub AcknowledgeKeepsValid : Type 0
AcknowledgeKeepsValid = (c : Chip) → valid c ≡ true → valid (acknowledge_of c).chip ≡ true

-- and under every read
abbrev pub ReadKeepsValid : Type 0
ReadKeepsValid = (c : Chip) → valid c ≡ true → valid (read_of c).chip ≡ true

-- and under every sample step, with any image and voice file
abbrev pub StepKeepsValid : Type 0
StepKeepsValid = (image voice : List ℕ) (c : Chip) → valid c ≡ true → valid (step_of image voice c).chip ≡ true

-- and under every run
abbrev pub RunKeepsValid : Type 0
RunKeepsValid = (image voice : List ℕ) (c : Chip) (n : ℕ) → valid c ≡ true → valid (run_of image voice c n).chip ≡ true

-- A look hands back the given chip, taken or refused.
abbrev pub LookKeeps : Type 0
LookKeeps = (c : Chip) → (look_of c).chip ≡ c

-- A read is what it was before it was two: the acknowledge, with the byte that the bus gets where it is taken.
abbrev pub ReadSame : Type 0
ReadSame =
    (c : Chip) → let a = acknowledge_of c in
    read_of c ≡ record { chip = a.chip; refusal = a.refusal; byte = cond (eqb a.refusal TAKEN) (bus_byte c.control) 0 }

-- a chip of the same kind
abbrev pub Alike : Chip → Chip → Type 0
Alike d c = SameKind d.control.device c.control.device

-- No operation turns one device into the other, valid or not.
pub record KindKept (image voice : List ℕ) (c : Chip) : Type 0 where
  pub write : (b : ℕ) → Alike (write_of image c b).chip c
  pub look : Alike (look_of c).chip c
  pub acknowledge : Alike (acknowledge_of c).chip c
  pub read : Alike (read_of c).chip c
  pub step : Alike (step_of image voice c).chip c
  pub run : (n : ℕ) → Alike (run_of image voice c n).chip c

-- two steps that leave the same control, report the same and give the same besides
pub record SameStep (s t : Stepped) : Type 0 where
  pub control : s.chip.control ≡ t.chip.control
  pub report : s.report ≡ t.report
  pub details : s.details ≡ t.details

-- What a step does to the control and what it reports depend on the image and the control alone, not on the voice file or the
-- sound.
abbrev pub ControlAlone : Type 0
ControlAlone =
    (image voice voice' : List ℕ) (c d : Chip) → c.control ≡ d.control → SameStep (step_taken image voice c) (step_taken image voice' d)

-- n steps of a chip that does not sound lower its count of busy samples by n and change nothing else; their samples are 0 (02, §12).
abbrev pub SilentSteps : Type 0
SilentSteps =
    (image voice : List ℕ) (c : Chip) (n : ℕ) → step_fault image voice c ≡ 0 → c.control.clock.sounding ≡ false
    → (state_after (sample_step image voice) n c ≡ silent_on n c) × (outputs (sample_step image voice) n c ≡ replicate n (pos 0))
