-- A byte written (01, "Refusal numbers", "Commands, FIFO, status").
use Rattle.std.specs.Prelude.{Result, Ok, Err, not, cond, List, [], ◌∷◌, ℕ}
use Rattle.base.specs.Answers.{number_of}
use Rattle.base.specs.Refusals.{TAKEN, WAIT, BEYOND, IMAGE, STATE, first_fault, unless_fault}
use Rattle.base.specs.declared.refusal.Refusal.{Refusal}
use Rattle.rom.specs.Bits.{image_valid}
use Rattle.sound.specs.State.{rest_sound}
use Rattle.chip.specs.Types.{Command, Accepted, Chip, Written}
use Rattle.control.specs.Commands.{command_of, waits_now, beyond}
use Rattle.bus.specs.Accept.{accepted}
use Rattle.chip.specs.Validity.{valid}

-- the fault of a byte with a command, in 01's order of checks: 3, 4, 1, 2
unfoldable pub command_fault : List ℕ → Chip → Command → ℕ
command_fault image c k =
    let m = c.control.mode in
    first_fault
    ((not (image_valid image), IMAGE) ∷ (not (valid c), STATE) ∷ (waits_now c.control k, WAIT) ∷
    (beyond m image c.control.address.position k, BEYOND) ∷ [])

-- the fault of a written byte
abbrev pub write_fault : List ℕ → Chip → ℕ → ℕ
write_fault image c b = command_fault image c (command_of b)

-- what a taken byte does: the control has accepted it, and the sound is at rest where the byte puts it there
abbrev pub after_byte : Chip → Accepted → Chip
after_byte c a = record { control = a.control; sound = cond a.rests rest_sound c.sound }

-- refused, the state is the given one
abbrev pub not_written : Chip → ℕ → Written
not_written c n = record { chip = c; refusal = n }

-- a byte written
unfoldable pub write_of : List ℕ → Chip → ℕ → Written
write_of image c b =
    unless_fault (write_fault image c b) (not_written c)
    (record { chip = after_byte c (accepted image c.control b); refusal = TAKEN })

-- what an answer of the operation says: refused, the given chip is handed back. The record is written out, here and in the other
-- operations: by `not_written`, `write` would promise no more than what that says
abbrev pub write_answer : Chip → Result Chip Refusal → Written
write_answer c (Ok next) = record { chip = next; refusal = TAKEN }
write_answer c (Err r) = record { chip = c; refusal = number_of r }
