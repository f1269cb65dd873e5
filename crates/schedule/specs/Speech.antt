-- Speech from ROM (01, "Sound"), of frames in any form, and that it keeps the schedule. Nothing here depends on a voice file or
-- on the sound.
use Rattle.std.specs.Prelude.{◌≡◌, true, false, not, cond, List, ℕ, ◌+◌, ◌*◌, max, length}
use Rattle.base.specs.Steps.{state_after}
use Rattle.base.specs.Units.{intervals}
use Rattle.rom.specs.Frames.{is_stop}
use Rattle.rom.specs.Items.{ItemAnswer, whole, cut, There}
use Rattle.clock.specs.Counters.{stopped, started, begun, counted, frame_begins}
use Rattle.reports.specs.Reports.{frame_report}
use Rattle.rates.specs.Form.{Form, KeepsSome, Item, item_code, read_item}
use Rattle.schedule.specs.Types.{Clock, NoReport, RanOut, Told, tells_rated, tells, Speech, Spoken}
use Rattle.schedule.specs.Schedule.{told_at, talks_after, position_after}

-- speech that begins at a bit: TS rises and the sound starts
abbrev pub talking_from : ℕ → Clock → Speech
talking_from start t = record { talking = true; position = start; clock = started t }

-- ---- a sample step

-- nothing changes but the clock, and nothing is reported
abbrev pub quiet : Speech → Clock → Spoken
quiet s t = record { speech = record { talking = s.talking; position = s.position; clock = t }; told = tells NoReport }

-- not sounding, a step changes nothing
abbrev pub silent : Speech → Spoken
silent s = quiet s s.clock

-- within a frame it counts on
abbrev pub goes_on : Speech → Spoken
goes_on s = quiet s (counted s.clock)

-- a boundary while it does not talk puts the sound to rest
abbrev pub rests : Speech → Spoken
rests s = quiet s (stopped s.clock)

-- a frame is taken, and the position is past it; a stop ends the talk, and its frame still sounds
abbrev pub took : Form → Speech → Item → ℕ → Spoken
took F s i next = record {
  speech = record { talking = not (is_stop i.1); position = next; clock = counted (begun (intervals (F.skips i.0)) s.clock) };
  told = tells_rated i.0 (frame_report i.1);
}

-- running out: the position goes to the image's end, or stays if past it; sound at rest at once
abbrev pub runs_out : List ℕ → Speech → Spoken
runs_out image s = record {
  speech = record { talking = false; position = max s.position (8 * length image); clock = stopped s.clock };
  told = tells RanOut;
}

-- a boundary while it talks, by what is read at the position
abbrev pub by_answer : Form → List ℕ → Speech → ItemAnswer Item → Spoken
by_answer F image s (whole i next) = took F s i next
by_answer F image s (cut h) = runs_out image s

-- a sample step
unfoldable pub spoken : Form → List ℕ → Speech → Spoken
spoken F image s =
    cond s.clock.sounding
    (cond (frame_begins s.clock) (cond s.talking (by_answer F image s (read_item F image s.position)) (rests s)) (goes_on s))
    (silent s)

-- ---- it keeps the schedule

module _ (F : Form) (image : List ℕ) where
  -- a step: the speech after it, and what it gives
  abbrev pub speech_step : Speech → Speech × Told
  speech_step s = ((spoken F image s).speech, (spoken F image s).told)

  -- after n steps the speech talks, stands and gives at the next step what is due of the items `is` from bit `start` on
  pub record OnTime (start : ℕ) (is : List Item) (n : ℕ) (s : Speech) : Type 0 where
    pub talking : s.talking ≡ talks_after F is n
    pub position : s.position ≡ position_after F start (8 * length image) is n
    pub told : (spoken F image s).told ≡ told_at F is (n + 1)

-- Speech from ROM, of frames in any form, keeps the schedule of the items there.
abbrev pub KeepsSchedule : Type 0
KeepsSchedule =
    (F : Form) → KeepsSome F → (image : List ℕ) (start : ℕ) (is : List Item) → There (item_code F) image start is
    → (t : Clock) (n : ℕ) → OnTime F image start is n (state_after (speech_step F image) n (talking_from start t))
