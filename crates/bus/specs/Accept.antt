-- What a taken byte does, by the mode (01, "Commands, FIFO, status").
use Rattle.std.specs.Prelude.{cond, List, ℕ, ◌+◌, eqb}
use Rattle.bus.specs.Types.{Mode, Idle, Rom, Waiting, External, Control, Accepted}
use Rattle.control.specs.State.{start_level, with_fifo}
use Rattle.fifo.specs.Buffer.{appended}
use Rattle.control.specs.Commands.{command_of}
use Rattle.bus.specs.Commands.{sound_kept, talking, reset, obeyed}

-- in both external modes each byte goes to the FIFO
abbrev pub buffered : Control → ℕ → Control
buffered k b = with_fifo (appended k.fifo b) k

-- idle obeys the byte's command; ROM speech takes Reset alone, all else waits; the ninth byte in waiting starts external speaking
abbrev pub accepted_in : Mode → List ℕ → Control → ℕ → Accepted
accepted_in Idle image k b = obeyed image k b (command_of b)
accepted_in Rom image k b = reset k
accepted_in Waiting image k b = cond (eqb (k.fifo.level + 1) start_level) (talking External (buffered k b)) (sound_kept (buffered k b))
accepted_in External image k b = sound_kept (buffered k b)

-- what a taken byte does
unfoldable pub accepted : List ℕ → Control → ℕ → Accepted
accepted image k b = accepted_in k.mode image k b
