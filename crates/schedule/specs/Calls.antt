-- The calls of demand 3's list (00, 01 "What acceptance reads"), on any device: what they return, and what is due.
use Rattle.std.specs.Prelude.{◌≡◌, Bool, cond, List, [], ◌∷◌, ℕ, ◌+◌, ◌*◌, eqb, length}
use Rattle.base.specs.Refusals.{TAKEN}
use Rattle.base.specs.Steps.{state_after}
use Rattle.rom.specs.Items.{There}
use Rattle.rates.specs.Form.{Form, KeepsSome, Item, item_code}
use Rattle.schedule.specs.Types.{Clock, NoReport, Told, tells, Speech}
use Rattle.schedule.specs.Schedule.{told_at, talks_after, position_after}
use Rattle.schedule.specs.Speech.{talking_from, spoken, OnTime}

-- a call of the list
pub data Call : Type 0 where
  -- a sample step, with a voice file
  step : List ℕ → Call
  -- a run, with a voice file, into a buffer of n elements
  run : List ℕ → ℕ → Call
  -- a byte read
  read : Call
  -- a byte written
  write : ℕ → Call

-- what a call returns, and the position of the chip that it hands back. The byte is a read's, and what is told that of a step
-- called alone
pub record Answer : Type 0 where
  pub refusal : ℕ
  pub byte : ℕ
  pub told : Told
  pub position : ℕ

-- ---- what is answered

-- a device on an image: each call gives the chip that it hands back and its refusal number
pub record Device : Type 1 where
  pub Chip : Type 0
  pub position : Chip → ℕ
  -- a step with a voice file, and what it gives
  pub stepped : List ℕ → Chip → Chip × (ℕ × Told)
  -- a run with a voice file, into a buffer of n elements
  pub ran : List ℕ → ℕ → Chip → Chip × ℕ
  -- a read, and its byte
  pub read_out : Chip → Chip × (ℕ × ℕ)
  -- a written byte
  pub written : ℕ → Chip → Chip × ℕ

module _ (D : Device) where
  -- the chip that a call hands back
  abbrev pub chip_after : D.Chip → Call → D.Chip
  chip_after c (step voice) = (D.stepped voice c).0
  chip_after c (run voice n) = (D.ran voice n c).0
  chip_after c read = (D.read_out c).0
  chip_after c (write b) = (D.written b c).0

  -- its refusal number
  abbrev pub refusal_of : D.Chip → Call → ℕ
  refusal_of c (step voice) = (D.stepped voice c).1.0
  refusal_of c (run voice n) = (D.ran voice n c).1
  refusal_of c read = (D.read_out c).1.0
  refusal_of c (write b) = (D.written b c).1

  -- the byte read
  abbrev pub byte_of : D.Chip → Call → ℕ
  byte_of c (step voice) = 0
  byte_of c (run voice n) = 0
  byte_of c read = (D.read_out c).1.1
  byte_of c (write b) = 0

  -- what a step gives
  abbrev pub told_by : D.Chip → Call → Told
  told_by c (step voice) = (D.stepped voice c).1.1
  told_by c (run voice n) = tells NoReport
  told_by c read = tells NoReport
  told_by c (write b) = tells NoReport

  -- all of it
  abbrev pub answer_of : D.Chip → Call → Answer
  answer_of c x = record { refusal = refusal_of c x; byte = byte_of c x; told = told_by c x; position = D.position (chip_after c x) }

  -- the answers to a list of calls: each call gets the chip that the last one handed back, and the same image
  unfoldable pub answers_of : D.Chip → List Call → List Answer
  answers_of c [] = []
  answers_of c (x ∷ xs) = answer_of c x ∷ answers_of (chip_after c x) xs

  -- the chip that the last of them hands back
  unfoldable pub after_calls : D.Chip → List Call → D.Chip
  after_calls c [] = c
  after_calls c (x ∷ xs) = after_calls (chip_after c x) xs

-- ---- the answers that are due

-- a device's numbers
pub record Table : Type 0 where
  -- the fault of a voice file, TAKEN where it is valid
  pub fault : List ℕ → ℕ
  -- the byte read while the device talks, or not
  pub status : Bool → ℕ
  -- the refusal table's number for a byte written while it talks, or not, at a position
  pub refuses : Bool → ℕ → ℕ → ℕ

-- the steps that a call takes: one, or one for each element of a run's buffer, but none with a voice file that is not valid
abbrev pub steps_in : Table → Call → ℕ
steps_in T (step voice) = cond (eqb (T.fault voice) TAKEN) 1 0
steps_in T (run voice n) = cond (eqb (T.fault voice) TAKEN) n 0
steps_in T read = 0
steps_in T (write b) = 0

-- the steps that a list of calls takes
unfoldable pub steps_in_all : Table → List Call → ℕ
steps_in_all T [] = 0
steps_in_all T (x ∷ xs) = steps_in T x + steps_in_all T xs

-- the items stand from bit `start` on in an image that ends at bit `end`
module _ (F : Form) (T : Table) (start end : ℕ) (is : List Item) where
  -- the position after n steps
  abbrev pub position_due : ℕ → ℕ
  position_due n = position_after F start end is n

  -- the number of a byte written after n steps
  abbrev pub write_due : ℕ → ℕ → ℕ
  write_due n b = T.refuses (talks_after F is n) (position_due n) b

  -- the number of a call after n steps: a step or run is refused exactly when its voice file is not valid
  abbrev pub refusal_due : ℕ → Call → ℕ
  refusal_due n (step voice) = T.fault voice
  refusal_due n (run voice m) = T.fault voice
  refusal_due n read = TAKEN
  refusal_due n (write b) = write_due n b

  -- each read gives the status, with TS exactly before the end
  abbrev pub byte_due : ℕ → Call → ℕ
  byte_due n (step voice) = 0
  byte_due n (run voice m) = 0
  byte_due n read = T.status (talks_after F is n)
  byte_due n (write b) = 0

  -- a taken step after n others has the number n + 1; a refused one reports nothing
  abbrev pub told_due : ℕ → Call → Told
  told_due n (step voice) = cond (eqb (T.fault voice) TAKEN) (told_at F is (n + 1)) (tells NoReport)
  told_due n (run voice m) = tells NoReport
  told_due n read = tells NoReport
  told_due n (write b) = tells NoReport

  -- the answer that is due to a call after n steps
  abbrev pub answer_due : ℕ → Call → Answer
  answer_due n x = record { refusal = refusal_due n x; byte = byte_due n x; told = told_due n x; position = position_due (n + steps_in T x) }

  -- the answers that are due to a list of calls, the first of them after n steps
  unfoldable pub answers_due : ℕ → List Call → List Answer
  answers_due n [] = []
  answers_due n (x ∷ xs) = answer_due n x ∷ answers_due (n + steps_in T x) xs

  -- a written byte of the list is one that the refusal table refuses there
  abbrev pub Refused : ℕ → Call → Type 0
  Refused n (step voice) = Unit {0}
  Refused n (run voice m) = Unit {0}
  Refused n read = Unit {0}
  Refused n (write b) = write_due n b ≡ TAKEN → ⊥

  -- and so is each of the list, the first call being after n steps
  unfoldable pub WritesRefused : ℕ → List Call → Type 0
  WritesRefused n [] = Unit {0}
  WritesRefused n (x ∷ xs) = Refused n x × WritesRefused (n + steps_in T x) xs

-- ---- the theorems

-- What a device is to show, of the chips for which Still holds: to its calls, what `speech` reads off a chip is speech from ROM.
pub record Speaks (F : Form) (T : Table) (image : List ℕ) (D : Device) (speech : D.Chip → Speech) (Still : D.Chip → Type 0) : Type 0 where
  -- its position is the chip's
  pub position : (c : D.Chip) → Still c → D.position c ≡ (speech c).position
  -- a step with a valid voice file is a step of the speech
  pub step_still : (voice : List ℕ) (c : D.Chip) → Still c → Still (D.stepped voice c).0
  pub step_speech : (voice : List ℕ) (c : D.Chip) → Still c → T.fault voice ≡ TAKEN
      → speech (D.stepped voice c).0 ≡ (spoken F image (speech c)).speech
  pub step_answer : (voice : List ℕ) (c : D.Chip) → Still c → T.fault voice ≡ TAKEN
      → (D.stepped voice c).1 ≡ (TAKEN, (spoken F image (speech c)).told)
  -- with another it is refused, and hands back the given chip
  pub step_refused : (voice : List ℕ) (c : D.Chip) → Still c → (T.fault voice ≡ TAKEN → ⊥)
      → D.stepped voice c ≡ (c, (T.fault voice, tells NoReport))
  -- a run is one step for each element of the buffer, or is refused as a step is
  pub run_taken : (voice : List ℕ) (n : ℕ) (c : D.Chip) → Still c → T.fault voice ≡ TAKEN
      → D.ran voice n c ≡ (state_after (D.stepped voice) n c, TAKEN)
  pub run_refused : (voice : List ℕ) (n : ℕ) (c : D.Chip) → Still c → (T.fault voice ≡ TAKEN → ⊥) → D.ran voice n c ≡ (c, T.fault voice)
  -- a read is taken, gives the status and leaves the speech as it is
  pub read_still : (c : D.Chip) → Still c → Still (D.read_out c).0
  pub read_speech : (c : D.Chip) → Still c → speech (D.read_out c).0 ≡ speech c
  pub read_byte : (c : D.Chip) → Still c → (D.read_out c).1 ≡ (TAKEN, T.status (speech c).talking)
  -- a byte that the table refuses gets its number, and the given chip is handed back
  pub write_refused : (b : ℕ) (c : D.Chip) → Still c → (T.refuses (speech c).talking (speech c).position b ≡ TAKEN → ⊥)
      → D.written b c ≡ (c, T.refuses (speech c).talking (speech c).position b)

-- Every list of calls on a chip that begins to speak at bit `start`, whose written bytes are refused there, gets the answers that
-- are due of the items there.
abbrev pub AnswersDue : Type 1
AnswersDue =
    (F : Form) → KeepsSome F → (T : Table) (image : List ℕ) (D : Device) (speech : D.Chip → Speech) (Still : D.Chip → Type 0)
    → Speaks F T image D speech Still
    → (start : ℕ) (is : List Item) → There (item_code F) image start is
    → (c : D.Chip) (t : Clock) → Still c → speech c ≡ talking_from start t
    → (xs : List Call) → WritesRefused F T start (8 * length image) is 0 xs
    → answers_of D c xs ≡ answers_due F T start (8 * length image) is 0 xs

-- And it keeps the schedule meanwhile: after the list it talks, stands and gives at the next step what is due.
abbrev pub StaysOnTime : Type 1
StaysOnTime =
    (F : Form) → KeepsSome F → (T : Table) (image : List ℕ) (D : Device) (speech : D.Chip → Speech) (Still : D.Chip → Type 0)
    → Speaks F T image D speech Still
    → (start : ℕ) (is : List Item) → There (item_code F) image start is
    → (c : D.Chip) (t : Clock) → Still c → speech c ≡ talking_from start t
    → (xs : List Call) → WritesRefused F T start (8 * length image) is 0 xs
    → Still (after_calls D c xs) × OnTime F image start is (steps_in_all T xs) (speech (after_calls D c xs))
