-- Demand 3 for the TMS5220C (02, §5): the mode set before Speak, each frame lasting its own samples and, with v = 1, its rate counted
-- among its indexes. An item is a frame with its rate bits, which are 0 where it has none.
use Rattle.std.specs.Prelude.{◌≡◌, ◌↔◌, true, List, [], ◌∷◌, ◌++◌, map, ℕ, ◌+◌, ◌*◌, ◌≤◌, ◌<◌, length}
use Rattle.base.specs.Refusals.{TAKEN}
use Rattle.rom.specs.Bits.{image_valid}
use Rattle.rom.specs.Frames.{pitch_width}
use Rattle.rom.specs.Items.{sum_of}
use Rattle.rates.specs.Rates.{power_up_rate}
use Rattle.rates.specs.Form.{Item, kept_intervals}
use Rattle.rates.specs.Walks.{rated_accepted, rated_walk_of}
use Rattle.rates.specs.Theorems.{RatedPhraseAt, ItemsThere}
use Rattle.rates.specs.declared.rate.FrameRate.{FrameRate}
use Rattle.schedule.specs.Schedule.{end_step, total_bits}
use Rattle.control.specs.Device.{rate_of}
use Rattle.control.specs.declared.device.Device.TheVariants.{Tms5220C}
use Rattle.fifo.specs.declared.BitOrder.{BitOrder}
use Rattle.chip.specs.State.{power_up_5220c_with}
use Rattle.chip.specs.declared.state.Chip.{Chip}
use Rattle.claims.specs.Writes.{after_bytes, refusals_of}
use Rattle.claims.specs.Device.{rated_form}
use Rattle.claims.specs.Answers.{AnswersDue, position_due}
use Rattle.claims.specs.Demand3.{Loads, SpeakByte}
use Rattle.claims.specs.Opening.{RateBytes, device_after, opening_bytes}

-- the rate after bytes of Load Frame Rate: the last one's, or that of power-up without any
abbrev pub rate_after : List ℕ → FrameRate
rate_after bs = rate_of (device_after (Tms5220C power_up_rate) bs)

-- the bytes with Speak
abbrev pub spoken_bytes : List ℕ → {a : ℕ} → Loads a → List ℕ → SpeakByte → List ℕ
spoken_bytes ls l ms s = opening_bytes ls l ms ++ (s.byte ∷ [])

-- the chip after power-up with an order of the FIFO's bits, and them
abbrev pub speaking_rated : List ℕ → BitOrder → List ℕ → {a : ℕ} → Loads a → List ℕ → SpeakByte → Chip
speaking_rated image o ls l ms s = after_bytes image (power_up_5220c_with o) (spoken_bytes ls l ms s)

-- what is demanded of an image and a byte address in it, at the rate r that the bytes ls and ms leave
pub record RatedAtAddress (image : List ℕ) (a : ℕ) (ls ms : List ℕ) (r : FrameRate) : Type 0 where
  -- the walk told the rate accepts the address exactly when a phrase begins there
  pub accepts : ((rated_walk_of pitch_width r image a).refusal ≡ TAKEN) ↔ ((is : List Item) × RatedPhraseAt pitch_width r image a is)
  -- and reports how many frames the phrase has, the sum of their bits and that of the intervals that they last
  pub counts : (is : List Item) → RatedPhraseAt pitch_width r image a is
      → rated_walk_of pitch_width r image a ≡ rated_accepted (total_bits (rated_form r) is) (length is) (sum_of (kept_intervals (rated_form r)) is)
  -- no second phrase begins there
  pub one_phrase : (is js : List Item) → RatedPhraseAt pitch_width r image a is → RatedPhraseAt pitch_width r image a js → is ≡ js
  -- there are items there, those of the phrase or of the longest list, and no others
  pub items_exist : (is : List Item) × ItemsThere pitch_width r image a is
  pub items_unique : (is js : List Item) → ItemsThere pitch_width r image a is → ItemsThere pitch_width r image a js → is ≡ js
  -- a chip fresh from power-up, plain or by an order, takes the bytes, Speak too
  pub opened : (o : BitOrder) (l : Loads a) (s : SpeakByte)
      → refusals_of image (power_up_5220c_with o) (spoken_bytes ls l ms s) ≡ map (λ (b : ℕ). TAKEN) (spoken_bytes ls l ms s)
  -- and then every list of calls gets the answers that are due
  pub calls : (o : BitOrder) (l : Loads a) (s : SpeakByte) (is : List Item) → ItemsThere pitch_width r image a is
      → AnswersDue (rated_form r) image a is (speaking_rated image o ls l ms s)
  -- the walk and the chip find one and the same end: from the stop's step on the position is past as many bits as the walk reports
  pub same_end : (is : List Item) → RatedPhraseAt pitch_width r image a is → (n : ℕ) → end_step (rated_form r) is ≤ n
      → position_due (rated_form r) image a is n ≡ 8 * a + (rated_walk_of pitch_width r image a).bits

-- Demand 3, for every valid image, every byte address in it, and Load Frame Rate bytes before and after the loads.
abbrev pub Demand3Rated : Type 0
Demand3Rated =
    (image : List ℕ) (a : ℕ) → image_valid image ≡ true → a < length image → (ls ms : List ℕ) → RateBytes ls → RateBytes ms
    → RatedAtAddress image a ls ms (rate_after (ls ++ ms))
