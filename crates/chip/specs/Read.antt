-- A byte read (01, "Commands, FIFO, status"), and its two halves (02, §6): the look and the acknowledge.
use Rattle.std.specs.Prelude.{Result, Ok, Err, not, [], ◌∷◌, ℕ}
use Rattle.base.specs.Answers.{number_of}
use Rattle.base.specs.Refusals.{TAKEN, STATE, first_fault, unless_fault}
use Rattle.base.specs.declared.refusal.Refusal.{Refusal}
use Rattle.control.specs.State.{with_port}
use Rattle.control.specs.Status.{bus_byte, acknowledged_port}
use Rattle.chip.specs.Types.{Control, Chip, Acknowledged, ByteRead, BusRead}
use Rattle.chip.specs.Validity.{valid}

-- the fault of each: 4
abbrev pub read_fault : Chip → ℕ
read_fault c = first_fault ((not (valid c), STATE) ∷ [])

-- refused, a look has the byte 0
abbrev pub not_looked : Chip → ℕ → ByteRead
not_looked c n = record { chip = c; refusal = n; byte = 0 }

-- the look: the byte that the bus would get, and the same state, pending data and interrupt too
unfoldable pub look_of : Chip → ByteRead
look_of c = unless_fault (read_fault c) (not_looked c) (record { chip = c; refusal = TAKEN; byte = bus_byte c.control })

-- refused, the state is the given one
abbrev pub not_acknowledged : Chip → ℕ → Acknowledged
not_acknowledged c n = record { chip = c; refusal = n }

-- what a bus read does to the control
abbrev pub acknowledged : Control → Control
acknowledged k = with_port (acknowledged_port k.port) k

-- the acknowledge: what a bus read does to the state
unfoldable pub acknowledge_of : Chip → Acknowledged
acknowledge_of c =
    unless_fault (read_fault c) (not_acknowledged c)
    (record { chip = record { control = acknowledged c.control; sound = c.sound }; refusal = TAKEN })

-- a byte read: the look, followed by the acknowledge
unfoldable pub read_of : Chip → ByteRead
read_of c =
    let l = look_of c in
    let a = acknowledge_of l.chip in
    record { chip = a.chip; refusal = a.refusal; byte = l.byte }

-- what the answers of the three operations say: refused, the given chip is handed back
abbrev pub look_answer : Chip → Result ℕ Refusal → ByteRead
look_answer c (Ok byte) = record { chip = c; refusal = TAKEN; byte = byte }
look_answer c (Err r) = record { chip = c; refusal = number_of r; byte = 0 }

abbrev pub acknowledge_answer : Chip → Result Chip Refusal → Acknowledged
acknowledge_answer c (Ok next) = record { chip = next; refusal = TAKEN }
acknowledge_answer c (Err r) = record { chip = c; refusal = number_of r }

abbrev pub read_answer : Chip → Result BusRead Refusal → ByteRead
read_answer c (Ok r) = record { chip = r.chip; refusal = TAKEN; byte = r.byte }
read_answer c (Err r) = record { chip = c; refusal = number_of r; byte = 0 }
