-- The history of a list of calls: what was asked and what was answered (02, §10). Each call is on the chip last handed back.
use Rattle.std.specs.Prelude.{Bool, true, false, cond, List, [], ◌∷◌, ◌++◌, ℕ, zero, suc, eqb}
use Rattle.base.specs.Refusals.{TAKEN}
use Rattle.rom.specs.Frames.{pitch_width}
use Rattle.fifo.specs.Buffer.{bits_of_byte}
use Rattle.rates.specs.Form.{rate_form, item_code}
use Rattle.reports.specs.Reports.{no_details}
use Rattle.control.specs.Device.{rate_of, at_power_up, loaded_rate}
use Rattle.control.specs.Commands.{command_of}
use Rattle.chip.specs.Write.{write_of}
use Rattle.chip.specs.Read.{look_of, acknowledge_of, read_of}
use Rattle.chip.specs.Step.{step_of}
use Rattle.chip.specs.Run.{run_of}
use Rattle.account.specs.Types.{Frame, BitOrder, Details, Report, NoReport, FrameReport, StopReport, RanOut, Device, Command, LoadFrameRate, ReadByte, ReadAndBranch, LoadAddress, Speak, SpeakExternal, Reset, Chip, Stepped}

-- ---- the calls

-- a call, each with its own image and voice file
pub data Call : Type 0 where
  -- a byte written, with an image
  write : List ℕ → ℕ → Call
  -- a byte read, and its halves
  read : Call
  look : Call
  acknowledge : Call
  -- a sample step, with an image and a voice file
  step : List ℕ → List ℕ → Call
  -- a run, with an image and a voice file, into a buffer of so many elements
  run : List ℕ → List ℕ → ℕ → Call

-- the chip that a call hands back
abbrev pub chip_after : Chip → Call → Chip
chip_after c (write image b) = (write_of image c b).chip
chip_after c read = (read_of c).chip
chip_after c look = (look_of c).chip
chip_after c acknowledge = (acknowledge_of c).chip
chip_after c (step image voice) = (step_of image voice c).chip
chip_after c (run image voice n) = (run_of image voice c n).chip

-- the chip after a list of calls
abbrev pub last_chip : Chip → List Call → Chip
last_chip c [] = c
last_chip c (x ∷ xs) = last_chip (chip_after c x) xs

-- ---- what is asked and answered

-- an entry of the history
pub data Entry : Type 0 where
  -- a byte written, and its refusal number
  wrote : ℕ → ℕ → Entry
  -- a sample step: its refusal number, what it reported and what it gave besides
  stepped : ℕ → Report → Details → Entry
  -- a read, a look or an acknowledge, which tells nothing of the FIFO's bits
  looked : Entry

-- a step's entry
abbrev pub step_entry : Stepped → Entry
step_entry s = stepped s.refusal s.report s.details

-- the entries of n steps one after another
abbrev pub step_entries : List ℕ → List ℕ → ℕ → Chip → List Entry
step_entries image voice zero c = []
step_entries image voice (suc n) c = step_entry (step_of image voice c) ∷ step_entries image voice n (step_of image voice c).chip

-- the entries of a run whose refusal number is r: it counts as its steps; refused, it is one refused step
abbrev pub run_entries : List ℕ → List ℕ → ℕ → Chip → ℕ → List Entry
run_entries image voice n c r = cond (eqb r TAKEN) (step_entries image voice n c) (stepped r NoReport no_details ∷ [])

-- the entries of a call
abbrev pub entries_of : Chip → Call → List Entry
entries_of c (write image b) = wrote b (write_of image c b).refusal ∷ []
entries_of c read = looked ∷ []
entries_of c look = looked ∷ []
entries_of c acknowledge = looked ∷ []
entries_of c (step image voice) = step_entry (step_of image voice c) ∷ []
entries_of c (run image voice n) = run_entries image voice n c (run_of image voice c n).refusal

-- the history of a list of calls
abbrev pub history : Chip → List Call → List Entry
history c [] = []
history c (x ∷ xs) = entries_of c x ++ history (chip_after c x) xs

-- ---- what the history tells of the chip; from here on nothing looks at one

-- what the entries so far tell
pub record Reading : Type 0 where
  -- whether the external modes are on
  pub external : Bool
  -- the device, with the rate that is set on it
  pub device : Device
  -- the order in which a byte's bits leave
  pub order : BitOrder

-- at power-up of a device with a bit order
abbrev pub at_start : Device → BitOrder → Reading
at_start d o = record { external = false; device = d; order = o }

-- with the external modes on or off
abbrev pub switched : Bool → Reading → Reading
switched on t = record { external = on; device = t.device; order = t.order }

-- with another rate on the device
abbrev pub with_device : Device → Reading → Reading
with_device d t = record { external = t.external; device = d; order = t.order }

-- after a command that is taken outside the external modes; b is the byte that it was in. Load Frame Rate sets the rate, Speak External
-- turns the external modes on, Reset is power-up in the same bit order
abbrev pub obeyed_reading : Reading → ℕ → Command → Reading
obeyed_reading t b LoadFrameRate = with_device (loaded_rate t.device b) t
obeyed_reading t b ReadByte = t
obeyed_reading t b ReadAndBranch = t
obeyed_reading t b LoadAddress = t
obeyed_reading t b Speak = t
obeyed_reading t b SpeakExternal = switched true t
obeyed_reading t b Reset = at_start (at_power_up t.device) t.order

-- after a taken byte: in the external modes it goes to the FIFO
abbrev pub after_byte : Reading → ℕ → Reading
after_byte t b = cond t.external t (obeyed_reading t b (command_of b))

-- after a taken step: a stop or running out turns the external modes off
abbrev pub after_report : Reading → Report → Reading
after_report t NoReport = t
after_report t (FrameReport f) = t
after_report t StopReport = switched false t
after_report t RanOut = switched false t

-- after an entry; a refused byte changes nothing, and a refused step reports nothing
abbrev pub next : Reading → Entry → Reading
next t (wrote b n) = cond (eqb n TAKEN) (after_byte t b) t
next t (stepped n r d) = after_report t r
next t looked = t

-- ---- the bits of bytes and frames

-- the bits of a byte in the order in which they leave the FIFO
abbrev pub byte_bits : Reading → ℕ → List ℕ
byte_bits t b = bits_of_byte t.order b

-- the bits of a frame that a step reports with the details d: its rate bits, where the rate has any, and its own
abbrev pub frame_bits : Reading → Details → Frame → List ℕ
frame_bits t d f = (item_code (rate_form (rate_of t.device) pitch_width)).bits (d.rate, f)
