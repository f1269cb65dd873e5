-- A run (01, "Refusal numbers"): one sample step for each element of the buffer, in order.
use Rattle.std.specs.Prelude.{Result, Ok, Err, List, ℕ, ℤ, length}
use Rattle.base.specs.Answers.{number_of}
use Rattle.base.specs.Refusals.{TAKEN, unless_fault}
use Rattle.base.specs.declared.refusal.Refusal.{Refusal}
use Rattle.base.specs.Steps.{state_after, outputs}
use Rattle.rom.specs.Frames.{pitch_width}
use Rattle.sound.specs.Sample.{sound_after}
use Rattle.control.specs.State.{with_clock, less_busy}
use Rattle.clock.specs.Counters.{counted_by}
use Rattle.chip.specs.Types.{Chip, Ran}
use Rattle.chip.specs.Step.{step_fault, step_of}

-- one step: the chip that it hands back, and its sample
abbrev pub sample_step : List ℕ → List ℕ → Chip → Chip × ℤ
sample_step image voice c = ((step_of image voice c).chip, (step_of image voice c).sample)

-- the chip n samples on, within an interval in which a sample has been made: the clock counts, the sound plays
abbrev pub played_on : List ℕ → ℕ → Chip → Chip
played_on voice n c =
    record { control = with_clock (counted_by n c.control.clock) (less_busy n c.control); sound = sound_after pitch_width voice n c.sound }

-- the chip n samples on, where it does not sound: a branch's time passes (02, §12)
abbrev pub silent_on : ℕ → Chip → Chip
silent_on n c = record { control = less_busy n c.control; sound = c.sound }

-- refused, the state is the given one
abbrev pub not_run : Chip → ℕ → Ran
not_run c n = record { chip = c; refusal = n }

-- a run into a buffer of n elements
unfoldable pub run_of : List ℕ → List ℕ → Chip → ℕ → Ran
run_of image voice c n =
    unless_fault (step_fault image voice c) (not_run c)
    (record { chip = state_after (sample_step image voice) n c; refusal = TAKEN })

-- what it leaves in the buffer: the samples, or refused what was there
unfoldable pub buffer_of : List ℕ → List ℕ → Chip → List ℤ → List ℤ
buffer_of image voice c out =
    unless_fault (step_fault image voice c) (λ n. out) (outputs (sample_step image voice) (length out) c)

-- what an answer of the operation says: refused, the given chip is handed back
abbrev pub run_answer : Chip → Result Chip Refusal → Ran
run_answer c (Ok next) = record { chip = next; refusal = TAKEN }
run_answer c (Err r) = record { chip = c; refusal = number_of r }
