-- The calls of demand 3's list on the chip, and what is due of the items `is`, in the form F, at byte a. The crate `schedule` defines
-- both over any device.
use Rattle.std.specs.Prelude.{◌≡◌, List, ℕ, ◌*◌, length}
use Rattle.rates.specs.Form.{Form, Item}
use Rattle.schedule.specs.Schedule
use Rattle.schedule.specs.Calls
use Rattle.schedule.specs.Calls.{Call, Answer}
use Rattle.chip.specs.declared.state.Chip.{Chip}
use Rattle.claims.specs.Device.{chip_on, chip_table}

-- the answers to a list of calls: each call gets the chip that the last one handed back, and the same image
abbrev pub answers_of : List ℕ → Chip → List Call → List Answer
answers_of image = Calls.answers_of (chip_on image)

module _ (F : Form) (image : List ℕ) (a : ℕ) (is : List Item) where
  -- the written bytes of a list are those that the refusal table refuses there, the first call being after n steps
  abbrev pub WritesRefused : ℕ → List Call → Type 0
  WritesRefused = Calls.WritesRefused F (chip_table image) (8 * a) (8 * length image) is

  -- the answers that are due to a list of calls, the first of them after n steps
  abbrev pub answers_due : ℕ → List Call → List Answer
  answers_due = Calls.answers_due F (chip_table image) (8 * a) (8 * length image) is

  -- every list of calls on the chip c, whose written bytes are refused there, gets the answers that are due
  abbrev pub AnswersDue : Chip → Type 0
  AnswersDue c = (xs : List Call) → WritesRefused 0 xs → answers_of image c xs ≡ answers_due 0 xs

  -- the position after n steps: 8a plus the bits of the items due so far, or the image's end after running out
  abbrev pub position_due : ℕ → ℕ
  position_due = Schedule.position_after F (8 * a) (8 * length image) is
