-- What a sample step reports (01, "Sound"), and what it may ask of the sound. P is the width of the pitch field.
use Rattle.std.specs.Prelude.{Option, Some, None, cond, List, ◌∷◌, ℕ, ◌<◌}
use Rattle.base.specs.Units.{intervals_per_frame}
use Rattle.rom.specs.Frames.{is_stop, Proper, numbers_of}
use Rattle.rom.specs.declared.frames.Frame.{Frame}
use Rattle.rom.specs.declared.frames.Frame.TheVariants.{Stop}
use Rattle.base.specs.declared.refusal.Shortfall.{Shortfall}
use Rattle.reports.specs.Types.{Details, Report, NoReport, FrameReport, StopReport, RanOut, Action, Silent, Rest, Begin, Interpolate, Continue}

-- each step reports one of: nothing, frame, stop, ran out, with the numbers 0, 1, 2, 3
abbrev pub report_number : Report → ℕ
report_number NoReport = 0
report_number (FrameReport f) = 1
report_number StopReport = 2
report_number RanOut = 3

-- and its frame, if any
abbrev pub report_frame : Report → Option Frame
report_frame NoReport = None
report_frame (FrameReport f) = Some f
report_frame StopReport = Some Stop
report_frame RanOut = None

-- the report's number and its frame's numbers
abbrev pub report_numbers : Report → List ℕ
report_numbers r = report_number r ∷ numbers_of (report_frame r)

-- a frame that begins is reported as frame or stop
abbrev pub frame_report : Frame → Report
frame_report f = cond (is_stop f) StopReport (FrameReport f)

-- with a frame's rate bits, and the bits that it throws away (02, §10)
abbrev pub of_frame : ℕ → ℕ → Details
of_frame q lost = record { rate = q; begun = 0; used_up = 0; missing = 0; thrown = lost }

-- with a frame's rate bits
abbrev pub rated : ℕ → Details
rated q = of_frame q 0

-- with nothing besides
abbrev pub no_details : Details
no_details = rated 0

-- running out in the ROM, with the bit at which the cut frame begins and the bits that it lacks (02, §4)
abbrev pub out_of_rom : Shortfall → Details
out_of_rom h = record { rate = 0; begun = h.begun; used_up = 0; missing = h.missing; thrown = 0 }

-- running out in the FIFO, with the bits used up and those that the frame lacks, and no place (02, §4)
abbrev pub out_of_fifo : ℕ → ℕ → Details
out_of_fifo used missing = record { rate = 0; begun = 0; used_up = used; missing = missing; thrown = 0 }

-- what the sound counts on: a frame that begins is one of the table, and an interval is one of a frame's
abbrev pub Playable : ℕ → Action → Type 0
Playable P Silent = Unit {0}
Playable P Rest = Unit {0}
Playable P (Begin f i) = Proper P f × (i.0 < intervals_per_frame)
Playable P (Interpolate i) = i.0 < intervals_per_frame
Playable P Continue = Unit {0}
