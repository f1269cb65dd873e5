-- The commands (01, "Commands, FIFO, status"), and when a byte is not taken (01, "Refusal numbers").
use Rattle.std.specs.Prelude.{Bool, true, false, not, ◌||◌, List, [], ◌∷◌, ℕ, ◌+◌, ◌*◌, ◌/◌, ◌%◌, eqb, leb, length, get_or}
use Rattle.control.specs.Types.{Mode, Idle, Rom, Waiting, External, Control, Command, LoadFrameRate, ReadByte, ReadAndBranch, LoadAddress, Speak, SpeakExternal, Reset}
use Rattle.fifo.specs.Buffer.{fifo_size}
use Rattle.control.specs.State.{is_busy}

-- the middle code, weights 40, 20, 10, chooses; the top bit is ignored. Codes 000 and 010 are Load Frame Rate (02, §5), which does
-- nothing on the TMS5220
abbrev pub command_of : ℕ → Command
command_of b =
    get_or
    (LoadFrameRate ∷ ReadByte ∷ LoadFrameRate ∷ ReadAndBranch ∷ LoadAddress ∷ Speak ∷ SpeakExternal ∷ Reset ∷ [])
    (b / 16 % 8)
    LoadFrameRate

-- the command that ROM speech takes
abbrev pub is_reset : Command → Bool
is_reset LoadFrameRate = false
is_reset ReadByte = false
is_reset ReadAndBranch = false
is_reset LoadAddress = false
is_reset Speak = false
is_reset SpeakExternal = false
is_reset Reset = true

-- 1 WAIT: in Speak External with 16 bytes held, or a byte other than Reset in the mode speaking from ROM
abbrev pub waits : Mode → ℕ → Command → Bool
waits Idle level k = false
waits Rom level k = not (is_reset k)
waits Waiting level k = eqb level fifo_size
waits External level k = eqb level fifo_size

-- and every byte, Reset too, while a branch keeps the chip busy (02, §12)
abbrev pub waits_now : Control → Command → Bool
waits_now k c = is_busy k.port || waits k.mode k.fifo.level c

-- 2 BEYOND, of a command at a position: Read Byte with under 8 bits left; Read and Branch with either byte outside the image;
-- Speak with no bit left
abbrev pub beyond_at : List ℕ → ℕ → Command → Bool
beyond_at image p LoadFrameRate = false
beyond_at image p ReadByte = not (leb (p + 8) (8 * length image))
beyond_at image p ReadAndBranch = not (leb (p / 8 + 2) (length image))
beyond_at image p LoadAddress = false
beyond_at image p Speak = not (leb (p + 1) (8 * length image))
beyond_at image p SpeakExternal = false
beyond_at image p Reset = false

-- 2 BEYOND in a mode: only idle takes commands that read the image; ROM speech takes Reset alone, the external modes take bytes
abbrev pub beyond : Mode → List ℕ → ℕ → Command → Bool
beyond Idle image p k = beyond_at image p k
beyond Rom image p k = false
beyond Waiting image p k = false
beyond External image p k = false
