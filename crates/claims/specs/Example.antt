-- Demand 3 by example: two small images, each with a list of calls and its answers.
use Rattle.std.specs.Prelude.{◌≡◌, refl, List, [], ◌∷◌, ℕ}
use Rattle.base.specs.Refusals.{TAKEN, WAIT, BEYOND, VOICE_SIZE}
use Rattle.rom.specs.Frames.{pitch_width}
use Rattle.rom.specs.Phrases.{FramesThere}
use Rattle.rom.specs.declared.frames.Frame.{Frame}
use Rattle.rom.specs.declared.frames.Frame.TheVariants.{Silence, Stop, Repeat}
use Rattle.reports.specs.declared.Report.{Report}
use Rattle.reports.specs.declared.Report.TheVariants.{Nothing as NoReport, Frame as FrameReport, Stop as StopReport, RanOut}
use Rattle.schedule.specs.Types.{tells}
use Rattle.schedule.specs.Calls.{Call, step, run, read, write, Answer}
use Rattle.voice.specs.Example.{voice}
use Rattle.claims.specs.Answers.{answers_of}
use Rattle.fifo.specs.declared.BitOrder.TheVariants.{LeastFirst}
use Rattle.claims.specs.Demand3.{Loads, SpeakByte, speaking, answers_due, WritesRefused}

-- loads of address 0, among them some with the top bit, and of the fifth only the two low bits; and Speak
abbrev pub loads : Loads 0
loads = record {
  byte0 = 0x40;
  byte1 = 0xC0;
  byte2 = 0x40;
  byte3 = 0xC0;
  byte4 = 0x4C;
  load0 = (refl, refl);
  load1 = (refl, refl);
  load2 = (refl, refl);
  load3 = (refl, refl);
  load4 = (refl, refl);
}

-- Speak, with the top bit
abbrev pub speak : SpeakByte
speak = record { byte = 0xD0; speak = refl }

-- an image, the frames there, calls and their answers
pub record Example : Type 0 where
  pub image : List ℕ
  pub frames : List Frame
  pub calls : List Call
  pub answers : List Answer

-- refusal, byte, report, position
abbrev answer : ℕ → ℕ → Report → ℕ → Answer
answer refusal byte report position = record { refusal = refusal; byte = byte; told = tells report; position = position }

-- a phrase: silence, repeat, stop. Step 401 is the stop's
abbrev pub phrase : Example
phrase = record {
  image = 0x03 ∷ 0x83 ∷ 0xE0 ∷ [];
  frames = Silence ∷ Repeat 3 1 ∷ Stop ∷ [];
  calls = read ∷ write 0x50 ∷ step voice ∷ step [] ∷ run voice 199 ∷ step voice ∷ run voice 199 ∷ read ∷ step voice ∷ read
      ∷ run [] 7 ∷ write 0x10 ∷ run voice 300 ∷ step voice ∷ [];
  answers = answer TAKEN 0xE0 NoReport 0
      ∷ answer WAIT 0 NoReport 0
      ∷ answer TAKEN 0 (FrameReport Silence) 4
      ∷ answer VOICE_SIZE 0 NoReport 4
      ∷ answer TAKEN 0 NoReport 4
      ∷ answer TAKEN 0 (FrameReport (Repeat 3 1)) 15
      ∷ answer TAKEN 0 NoReport 15
      ∷ answer TAKEN 0xE0 NoReport 15
      ∷ answer TAKEN 0 StopReport 19
      ∷ answer TAKEN 0x60 NoReport 19
      ∷ answer VOICE_SIZE 0 NoReport 19
      ∷ answer BEYOND 0 NoReport 19
      ∷ answer TAKEN 0 NoReport 19
      ∷ answer TAKEN 0 NoReport 19
      ∷ [];
}

-- no phrase: the bits end after the repeat, and running out is due at step 401
abbrev pub no_phrase : Example
no_phrase = record {
  image = 0x03 ∷ 0x83 ∷ [];
  frames = Silence ∷ Repeat 3 1 ∷ [];
  calls = run voice 400 ∷ read ∷ step voice ∷ read ∷ write 0x50 ∷ step voice ∷ [];
  answers = answer TAKEN 0 NoReport 15
      ∷ answer TAKEN 0xE0 NoReport 15
      ∷ answer TAKEN 0 RanOut 16
      ∷ answer TAKEN 0x60 NoReport 16
      ∷ answer BEYOND 0 NoReport 16
      ∷ answer TAKEN 0 NoReport 16
      ∷ [];
}

-- the frames are there, the written bytes are refused, and the answers are those that are due and those of the chip
pub record Holds (e : Example) : Type 0 where
  pub there : FramesThere pitch_width e.image 0 e.frames
  pub refused : WritesRefused e.image 0 e.frames 0 e.calls
  pub due : answers_due e.image 0 e.frames 0 e.calls ≡ e.answers
  pub given : answers_of e.image (speaking e.image LeastFirst loads speak) e.calls ≡ e.answers
