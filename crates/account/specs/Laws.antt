-- What a taken byte and a taken step do to the bits that the FIFO holds.
use Rattle.std.specs.Prelude.{◌≡◌, Bool, true, false, cond, List, ◌++◌, ℕ}
use Rattle.rom.specs.Frames.{pitch_width}
use Rattle.fifo.specs.Buffer.{held_bits}
use Rattle.control.specs.Validity.{control_valid}
use Rattle.control.specs.Commands.{command_of, waits_now}
use Rattle.bus.specs.Accept.{accepted}
use Rattle.speech.specs.Advance.{advanced}
use Rattle.speech.specs.declared.advance.Moved.{Moved}
use Rattle.account.specs.Types.{Mode, Idle, Rom, Waiting, External, Control}
use Rattle.account.specs.Entries.{Reading, after_byte, after_report, byte_bits}
use Rattle.account.specs.Order.{FifoMove}

-- the external modes
abbrev pub is_external : Mode → Bool
is_external Idle = false
is_external Rom = false
is_external Waiting = true
is_external External = true

-- what the history should tell of a control k in mode m
abbrev pub reading_in : Mode → Control → Reading
reading_in m k = record { external = is_external m; device = k.device; order = k.fifo.order }

-- of a control
abbrev pub reading_of : Control → Reading
reading_of k = reading_in k.mode k

-- a byte taken at the reading t, where the bits `queue` are held, leaves the control k
pub record ByteMoves (t : Reading) (queue : List ℕ) (b : ℕ) (k : Control) : Type 0 where
  pub bits : held_bits k.fifo ≡ cond t.external (queue ++ byte_bits t b) queue
  pub reading : reading_of k ≡ after_byte t b

-- A taken byte puts its bits behind those held in the external modes, and changes nothing of the bits held outside them.
abbrev pub BytesIn : Type 0
BytesIn =
    (image : List ℕ) (k : Control) (b : ℕ) → control_valid k ≡ true → waits_now k (command_of b) ≡ false
    → ByteMoves (reading_of k) (held_bits k.fifo) b (accepted image k b).control

-- a step at the reading t, where the bits `queue` are held, moves so
pub record StepMoves (t : Reading) (queue : List ℕ) (m : Moved) : Type 0 where
  pub bits : FifoMove t queue m.report m.details (held_bits m.control.fifo)
  pub reading : reading_of m.control ≡ after_report t m.report

-- A step does to the bits held what its report says.
abbrev pub FifoMoves : Type 0
FifoMoves =
    (image : List ℕ) (k : Control) → control_valid k ≡ true → StepMoves (reading_of k) (held_bits k.fifo) (advanced pitch_width image k)
