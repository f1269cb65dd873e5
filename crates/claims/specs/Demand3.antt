-- Demand 3 (00, 01 "What acceptance reads"): the walk and the chip find one and the same phrase, frame by frame and bit by
-- bit, whatever is called in between.
use Rattle.std.specs.Prelude.{◌≡◌, ◌↔◌, true, List, [], ◌∷◌, ◌++◌, map, ℕ, ◌+◌, ◌*◌, ◌/◌, ◌%◌, ◌≤◌, ◌<◌, length}
use Rattle.base.specs.Refusals.{TAKEN}
use Rattle.rom.specs.Bits.{image_valid}
use Rattle.rom.specs.Frames.{pitch_width}
use Rattle.rom.specs.Items.{bits_all}
use Rattle.rom.specs.Phrases.{frame_code, PhraseAt, FramesThere, walk_accepted, walk_of}
use Rattle.rom.specs.declared.frames.Frame.{Frame}
use Rattle.rates.specs.Form.{plain}
use Rattle.schedule.specs.Schedule
use Rattle.schedule.specs.Calls.{Call, Answer}
use Rattle.control.specs.Commands.{command_of}
use Rattle.control.specs.declared.commands.Command.TheVariants.{LoadAddress, Speak}
use Rattle.fifo.specs.declared.BitOrder.{BitOrder}
use Rattle.chip.specs.State.{power_up_with}
use Rattle.chip.specs.declared.state.Chip.{Chip}
use Rattle.claims.specs.Writes.{after_bytes, refusals_of}
use Rattle.claims.specs.Device.{chip_form}
use Rattle.claims.specs.Answers

-- ---- the five loads and Speak

-- a load of nibble v: any byte of code 100 with that nibble
abbrev pub Load : ℕ → ℕ → Type 0
Load b v = (command_of b ≡ LoadAddress) × (b % 16 ≡ v)

-- a load whose two low bits are v
abbrev pub LoadTwoBits : ℕ → ℕ → Type 0
LoadTwoBits b v = (command_of b ≡ LoadAddress) × (b % 4 ≡ v)

-- five loads of a's nibbles, lowest first; of the fifth only the two low bits count
pub record Loads (a : ℕ) : Type 0 where
  pub byte0 : ℕ
  pub byte1 : ℕ
  pub byte2 : ℕ
  pub byte3 : ℕ
  pub byte4 : ℕ
  pub load0 : Load byte0 (a % 16)
  pub load1 : Load byte1 (a / 16 % 16)
  pub load2 : Load byte2 (a / 256 % 16)
  pub load3 : Load byte3 (a / 4096 % 16)
  pub load4 : LoadTwoBits byte4 (a / 65536 % 4)

-- the five bytes
abbrev pub load_bytes : {a : ℕ} → Loads a → List ℕ
load_bytes l = l.byte0 ∷ l.byte1 ∷ l.byte2 ∷ l.byte3 ∷ l.byte4 ∷ []

-- any byte of code 101
pub record SpeakByte : Type 0 where
  pub byte : ℕ
  pub speak : command_of byte ≡ Speak

-- the chip after power-up with an order of the FIFO's bits, the five loads and Speak; the plain power-up is that with the least
-- significant first (02, §9)
abbrev pub speaking : List ℕ → BitOrder → {a : ℕ} → Loads a → SpeakByte → Chip
speaking image o l s = after_bytes image (power_up_with o) (load_bytes l ++ (s.byte ∷ []))

-- ---- what is due of the frames fs at byte a

module _ (image : List ℕ) (a : ℕ) (fs : List Frame) where
  -- the written bytes of a list are those that the refusal table refuses there, the first call being after n steps
  abbrev pub WritesRefused : ℕ → List Call → Type 0
  WritesRefused = Answers.WritesRefused chip_form image a (map plain fs)

  -- the answers that are due to a list of calls, the first of them after n steps
  abbrev pub answers_due : ℕ → List Call → List Answer
  answers_due = Answers.answers_due chip_form image a (map plain fs)

  -- every list of calls on the chip c, whose written bytes are refused there, gets the answers that are due
  abbrev pub AnswersDue : Chip → Type 0
  AnswersDue = Answers.AnswersDue chip_form image a (map plain fs)

  -- the position after n steps: 8a plus the bits of the frames due so far, or the image's end after running out
  abbrev pub position_due : ℕ → ℕ
  position_due = Answers.position_due chip_form image a (map plain fs)

-- the step of the end: the stop's or, without one, running out, where the next frame would be due
abbrev pub end_step : List Frame → ℕ
end_step fs = Schedule.end_step chip_form (map plain fs)

-- the bits of frames, as many as the table of kinds gives them
abbrev pub total_bits : List Frame → ℕ
total_bits fs = length (bits_all (frame_code pitch_width) fs)

-- ---- the statement

-- what is demanded of an image and a byte address in it
pub record AtAddress (image : List ℕ) (a : ℕ) : Type 0 where
  -- the walk accepts the address exactly when a phrase begins there
  pub accepts : ((walk_of pitch_width image a).refusal ≡ TAKEN) ↔ ((fs : List Frame) × PhraseAt pitch_width image a fs)
  -- and reports how many frames the phrase has and the sum of their bits
  pub counts : (fs : List Frame) → PhraseAt pitch_width image a fs → walk_of pitch_width image a ≡ walk_accepted (total_bits fs) (length fs)
  -- no second phrase begins there
  pub one_phrase : (fs gs : List Frame) → PhraseAt pitch_width image a fs → PhraseAt pitch_width image a gs → fs ≡ gs
  -- there are frames there, those of the phrase or of the longest list, and no others
  pub frames_exist : (fs : List Frame) × FramesThere pitch_width image a fs
  pub frames_unique : (fs gs : List Frame) → FramesThere pitch_width image a fs → FramesThere pitch_width image a gs → fs ≡ gs
  -- a chip fresh from power-up, plain or by an order, takes the five loads and Speak
  pub opened : (o : BitOrder) (l : Loads a) (s : SpeakByte)
      → refusals_of image (power_up_with o) (load_bytes l ++ (s.byte ∷ [])) ≡ TAKEN ∷ TAKEN ∷ TAKEN ∷ TAKEN ∷ TAKEN ∷ TAKEN ∷ []
  -- and then every list of calls gets the answers that are due
  pub calls : (o : BitOrder) (l : Loads a) (s : SpeakByte) (fs : List Frame) → FramesThere pitch_width image a fs
      → AnswersDue image a fs (speaking image o l s)
  -- the walk and the chip find one and the same end: from the stop's step on the position is past as many bits as the walk reports
  pub same_end : (fs : List Frame) → PhraseAt pitch_width image a fs → (n : ℕ) → end_step fs ≤ n
      → position_due image a fs n ≡ 8 * a + (walk_of pitch_width image a).bits

-- Demand 3, for every valid image and every byte address in it.
abbrev pub Demand3 : Type 0
Demand3 = (image : List ℕ) (a : ℕ) → image_valid image ≡ true → a < length image → AtAddress image a
