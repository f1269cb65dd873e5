-- The chip as a device of demand 3's list: the TMS5220 and TMS5200, and the TMS5220C.
use Rattle.std.specs.Prelude.{Bool, cond, List, [], ◌∷◌, ℕ}
use Rattle.base.specs.Refusals.{WAIT, BEYOND, first_fault}
use Rattle.rom.specs.Frames.{pitch_width}
use Rattle.rates.specs.Form.{Form, plain_form, rate_form}
use Rattle.rates.specs.declared.rate.FrameRate.{FrameRate}
use Rattle.schedule.specs.Types.{Told, tells_rated}
use Rattle.schedule.specs.Calls.{Device, Table}
use Rattle.voice.specs.Check.{voice_fault, version}
use Rattle.control.specs.Commands.{command_of, waits, beyond}
use Rattle.control.specs.declared.state.Mode.{Mode}
use Rattle.control.specs.declared.state.Mode.TheVariants.{Idle, Rom}
use Rattle.chip.specs.Write.{write_of}
use Rattle.chip.specs.Read.{read_of}
use Rattle.chip.specs.Step.{step_of}
use Rattle.chip.specs.Run.{run_of}
use Rattle.chip.specs.declared.state.Chip.{Chip}
use Rattle.chip.specs.Types.{Written}
use Rattle.chip.specs.Types.{ByteRead}
use Rattle.chip.specs.Types.{Stepped}
use Rattle.chip.specs.Types.{Ran}

-- the frames of the TMS5220 and TMS5200: without a prefix, each of 8 intervals, which are 200 samples
abbrev pub chip_form : Form
chip_form = plain_form pitch_width

-- and of the TMS5220C, at a frame rate
abbrev pub rated_form : FrameRate → Form
rated_form r = rate_form r pitch_width

-- ---- what its operations give

-- of a step: the chip handed back, the refusal number, the report and its rate bits
abbrev pub step_gives : Stepped → Chip × (ℕ × Told)
step_gives r = (r.chip, (r.refusal, tells_rated r.details.rate r.report))

-- of a run
abbrev pub run_gives : Ran → Chip × ℕ
run_gives r = (r.chip, r.refusal)

-- of a read, with the byte
abbrev pub read_gives : ByteRead → Chip × (ℕ × ℕ)
read_gives r = (r.chip, (r.refusal, r.byte))

-- of a written byte
abbrev pub write_gives : Written → Chip × ℕ
write_gives r = (r.chip, r.refusal)

-- the chip on an image: its operations and its position
abbrev pub chip_on : List ℕ → Device
chip_on image = record {
  Chip = Chip;
  position = λ c. c.control.address.position;
  stepped = λ voice c. step_gives (step_of image voice c);
  ran = λ voice n c. run_gives (run_of image voice c n);
  read_out = λ c. read_gives (read_of c);
  written = λ b c. write_gives (write_of image c b);
}

-- ---- its numbers

-- the fault of a voice file
abbrev pub fault_of : List ℕ → ℕ
fault_of voice = voice_fault pitch_width version voice

-- the mode: speaking from ROM while it talks, else idle
abbrev pub mode_of : Bool → Mode
mode_of talks = cond talks Rom Idle

-- the status: TS while it talks; BL and BE are set
abbrev pub talk_status : Bool → ℕ
talk_status talks = cond talks 0xE0 0x60

-- the refusal table's number for a written byte: 1, then 2. No byte is held
abbrev pub refused_as : List ℕ → Bool → ℕ → ℕ → ℕ
refused_as image talks position b =
    first_fault
    ((waits (mode_of talks) 0 (command_of b), WAIT) ∷ (beyond (mode_of talks) image position (command_of b), BEYOND) ∷ [])

-- all of them
abbrev pub chip_table : List ℕ → Table
chip_table image = record { fault = fault_of; status = talk_status; refuses = refused_as image }
