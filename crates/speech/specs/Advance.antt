-- What a sample step does to the control, what it asks of the sound, and what it reports (01, "Sound"). Nothing here depends on a
-- voice file or on the sound. P is the width of the pitch field.
use Rattle.std.specs.Prelude.{Bool, not, cond, ◌&&◌, ◌||◌, List, ℕ, ◌*◌, ◌-◌, max, ltb, length}
use Rattle.rom.specs.Frames.{is_stop}
use Rattle.rom.specs.Items.{ItemAnswer, whole, cut}
use Rattle.rom.specs.declared.frames.Frame.{Frame}
use Rattle.address.specs.Addresses.{moved_to}
use Rattle.clock.specs.Counters.{stopped, begun, counted, interval_begins, frame_begins}
use Rattle.fifo.specs.Buffer.{emptied, used_up, buffer_low, buffer_empty, held_bytes}
use Rattle.rates.specs.Rates.{skipped_with}
use Rattle.rates.specs.Form.{Form, rate_form, Item, read_item}
use Rattle.reports.specs.Reports.{frame_report, no_details, of_frame, rated, out_of_rom, out_of_fifo}
use Rattle.control.specs.Device.{rate_of}
use Rattle.control.specs.State.{with_mode, with_address, with_fifo, with_port, with_clock, less_busy}
use Rattle.control.specs.Validity.{speaks}
use Rattle.control.specs.Status.{raised_port}
use Rattle.speech.specs.Types.{Mode, Idle, Rom, Waiting, External, Fifo, Clock, Control, Details, NoReport, RanOut, Action, Silent, Rest, Begin, Interpolate, Continue, Moved}

-- the interrupt is set when TS falls or BL or BE rises
abbrev pub raises : Control → Mode → Fifo → Bool
raises k m f =
    (speaks k.mode && not (speaks m)) || (not (buffer_low k.fifo) && buffer_low f)
    || (not (buffer_empty k.fifo) && buffer_empty f)

-- the control with another mode, position, FIFO and clock, and the interrupt that this sets
abbrev pub changed : Control → Mode → ℕ → Fifo → Clock → Control
changed k m p f t =
    with_clock t (with_port (raised_port (raises k m f) k.port) (with_fifo f (with_address (moved_to p k.address) (with_mode m k))))

-- a frame is taken, and the position and the FIFO have moved on; it begins after the intervals that its rate skips. Stop also makes
-- the mode idle and discards held FIFO bytes. d is what the step gives besides
abbrev pub frame_begun : Control → Item → ℕ → Fifo → Details → Moved
frame_begun k (q, f) p held d =
    let first = skipped_with (rate_of k.device) q in
    record {
      control = changed k (cond (is_stop f) Idle k.mode) p (cond (is_stop f) (emptied held) held) (counted (begun first k.clock));
      action = Begin f first;
      report = frame_report f;
      details = d;
    }

-- running out: idle, sound at rest at once
abbrev pub ran_out : Control → ℕ → Fifo → Details → Moved
ran_out k p held d = record { control = changed k Idle p held (stopped k.clock); action = Rest; report = RanOut; details = d }

-- from ROM: if it ends inside a frame or before its first bit, the position goes to the image's end, or stays if past it
abbrev pub from_rom : List ℕ → Control → ItemAnswer Item → Moved
from_rom image k (whole i next) = frame_begun k i next k.fifo (rated i.0)
from_rom image k (cut h) = ran_out k (max k.address.position (8 * length image)) k.fifo (out_of_rom h)

-- running out in the FIFO: all bits held are used up
abbrev pub fifo_out : Control → ℕ → Moved
fifo_out k missing =
    ran_out k k.address.position (emptied k.fifo) (out_of_fifo (8 * k.fifo.level - k.fifo.used_bits) missing)

-- a stop from the FIFO throws away the bits that are left behind it (02, §10)
abbrev pub thrown_by : Control → Frame → ℕ → ℕ
thrown_by k f next = cond (is_stop f) (8 * k.fifo.level - next) 0

-- from the FIFO: if its bits end inside a frame, or exactly with a frame other than a stop, they are used up; the latter lacks no bit
abbrev pub from_fifo : Control → ItemAnswer Item → Moved
from_fifo k (whole i next) =
    cond (is_stop i.1 || ltb next (8 * k.fifo.level))
    (frame_begun k i k.address.position (used_up k.fifo next) (of_frame i.0 (thrown_by k i.1 next))) (fifo_out k 0)
from_fifo k (cut h) = fifo_out k h.missing

-- how the device's frames stand in the bits, at the rate that is set
abbrev pub form_of : ℕ → Control → Form
form_of P k = rate_form (rate_of k.device) P

-- a frame boundary in idle or waiting puts the sound to rest
abbrev pub rested : Control → Moved
rested k = record { control = with_clock (stopped k.clock) k; action = Rest; report = NoReport; details = no_details }

-- at a frame boundary: in ROM and external speech the rate bits, where there are any, and the frame after them
abbrev pub boundary_in : ℕ → Mode → List ℕ → Control → Moved
boundary_in P Idle image k = rested k
boundary_in P Rom image k = from_rom image k (read_item (form_of P k) image k.address.position)
boundary_in P Waiting image k = rested k
boundary_in P External image k = from_fifo k (read_item (form_of P k) (held_bytes k.fifo) k.fifo.used_bits)

-- within a frame the sound is interpolated at an interval's first sample
abbrev pub within : Clock → Action
within t = cond (interval_begins t) (Interpolate t.interval) Continue

-- a sample step of the control but for the time that a branch takes; not sounding, it changes nothing
unfoldable pub advanced_from : ℕ → List ℕ → Control → Moved
advanced_from P image k =
    cond k.clock.sounding
    (cond (frame_begins k.clock) (boundary_in P k.mode image k)
    (record { control = with_clock (counted k.clock) k; action = within k.clock; report = NoReport; details = no_details }))
    (record { control = k; action = Silent; report = NoReport; details = no_details })

-- a sample step of the control, sounding or not: one sample less busy (02, §12)
abbrev pub advanced : ℕ → List ℕ → Control → Moved
advanced P image k = advanced_from P image (less_busy 1 k)
