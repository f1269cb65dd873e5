-- Demand 3 for the TMS5220C by example: two small images, each with Load Frame Rate bytes, a list of calls and its answers.
use Rattle.std.specs.Prelude.{◌≡◌, List, [], ◌∷◌, ◌++◌, ℕ}
use Rattle.base.specs.Refusals.{TAKEN, WAIT, BEYOND}
use Rattle.rom.specs.Frames.{pitch_width}
use Rattle.rom.specs.declared.frames.Frame.TheVariants.{Silence, Stop, Repeat}
use Rattle.rates.specs.Form.{Item}
use Rattle.rates.specs.Theorems.{ItemsThere}
use Rattle.rates.specs.declared.rate.FrameRate.{FrameRate}
use Rattle.reports.specs.declared.Report.{Report}
use Rattle.reports.specs.declared.Report.TheVariants.{Nothing as NoReport, Frame as FrameReport, Stop as StopReport}
use Rattle.schedule.specs.Types.{tells_rated}
use Rattle.schedule.specs.Calls.{Call, step, run, read, write, Answer}
use Rattle.claims.specs.Device.{rated_form}
use Rattle.claims.specs.Answers.{answers_of, answers_due, WritesRefused}
use Rattle.fifo.specs.declared.BitOrder.TheVariants.{LeastFirst}
use Rattle.claims.specs.Demand3Rated.{rate_after, speaking_rated}
use Rattle.voice.specs.Example.{voice}
use Rattle.claims.specs.Example.{loads, speak}

-- an image, Load Frame Rate bytes before and after the loads, the items there, calls and their answers
pub record RatedExample : Type 0 where
  pub image : List ℕ
  pub before : List ℕ
  pub after : List ℕ
  pub items : List Item
  pub calls : List Call
  pub answers : List Answer

-- refusal, byte, rate bits and report, position
abbrev answer : ℕ → ℕ → ℕ → Report → ℕ → Answer
answer refusal byte rate report position = record { refusal = refusal; byte = byte; told = tells_rated rate report; position = position }

-- v = 1: a silence of 150 samples, a repeat of 50, and a stop, at step 201, of 100, after which the sound rests
abbrev pub variable : RatedExample
variable = record {
  image = 0x43 ∷ 0x38 ∷ 0x37 ∷ 0x80 ∷ [];
  before = 0x03 ∷ [];
  after = 0x00 ∷ 0xAC ∷ [];
  items = (1, Silence) ∷ (3, Repeat 3 1) ∷ (2, Stop) ∷ [];
  calls = read ∷ write 0x07 ∷ step voice ∷ run voice 149 ∷ step voice ∷ run voice 49 ∷ read ∷ step voice ∷ read ∷ run voice 100
      ∷ write 0x10 ∷ step voice ∷ [];
  answers = answer TAKEN 0xE0 0 NoReport 0
      ∷ answer WAIT 0 0 NoReport 0
      ∷ answer TAKEN 0 1 (FrameReport Silence) 6
      ∷ answer TAKEN 0 0 NoReport 6
      ∷ answer TAKEN 0 3 (FrameReport (Repeat 3 1)) 19
      ∷ answer TAKEN 0 0 NoReport 19
      ∷ answer TAKEN 0xE0 0 NoReport 19
      ∷ answer TAKEN 0 2 StopReport 25
      ∷ answer TAKEN 0x60 0 NoReport 25
      ∷ answer TAKEN 0 0 NoReport 25
      ∷ answer BEYOND 0 0 NoReport 25
      ∷ answer TAKEN 0 0 NoReport 25
      ∷ [];
}

-- v = 0, rr = 10: the same frames without rate bits, each of 100 samples
abbrev pub fixed : RatedExample
fixed = record {
  image = 0x03 ∷ 0x83 ∷ 0xE0 ∷ [];
  before = 0x07 ∷ [];
  after = 0x02 ∷ [];
  items = (0, Silence) ∷ (0, Repeat 3 1) ∷ (0, Stop) ∷ [];
  calls = step voice ∷ run voice 99 ∷ step voice ∷ run voice 99 ∷ read ∷ step voice ∷ read ∷ [];
  answers = answer TAKEN 0 0 (FrameReport Silence) 4
      ∷ answer TAKEN 0 0 NoReport 4
      ∷ answer TAKEN 0 0 (FrameReport (Repeat 3 1)) 15
      ∷ answer TAKEN 0 0 NoReport 15
      ∷ answer TAKEN 0xE0 0 NoReport 15
      ∷ answer TAKEN 0 0 StopReport 19
      ∷ answer TAKEN 0x60 0 NoReport 19
      ∷ [];
}

-- the rate that is set
abbrev pub example_rate : RatedExample → FrameRate
example_rate e = rate_after (e.before ++ e.after)

-- the items are there, the written bytes are refused, and the answers are those that are due and those of the chip
pub record RatedHolds (e : RatedExample) : Type 0 where
  pub there : ItemsThere pitch_width (example_rate e) e.image 0 e.items
  pub refused : WritesRefused (rated_form (example_rate e)) e.image 0 e.items 0 e.calls
  pub due : answers_due (rated_form (example_rate e)) e.image 0 e.items 0 e.calls ≡ e.answers
  pub given : answers_of e.image (speaking_rated e.image LeastFirst e.before loads e.after speak) e.calls ≡ e.answers
