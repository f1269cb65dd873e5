-- What is proved of the walk told a rate, for every image, address, rate and width P of the pitch field.
use Rattle.std.specs.Prelude.{◌≡◌, ◌↔◌, true, List, ℕ, ◌+◌, ◌*◌, ◌<◌, length}
use Rattle.base.specs.Refusals.{TAKEN}
use Rattle.rom.specs.Bits.{image_valid}
use Rattle.rom.specs.Items.{Phrase, There, bits_all, sum_of}
use Rattle.rom.specs.Phrases.{walk_cut, walk_of, phrase_of}
use Rattle.rom.specs.Reader.{frame_taken_of}
use Rattle.rates.specs.Rates.{power_up_rate, rate_valid}
use Rattle.rates.specs.Form.{rate_form, Item, item_code, short_at, kept_intervals}
use Rattle.rates.specs.Walks.{items_at, rated_accepted, rated_walk_of, rated_phrase_of, rated_taken_of}
use Rattle.rates.specs.declared.rate.FrameRate.{FrameRate}

-- a phrase, the items `is`, begins at byte address a
abbrev pub RatedPhraseAt : ℕ → FrameRate → List ℕ → ℕ → List Item → Type 0
RatedPhraseAt P r s a = Phrase (item_code (rate_form r P)) s (8 * a)

-- the items there
abbrev pub ItemsThere : ℕ → FrameRate → List ℕ → ℕ → List Item → Type 0
ItemsThere P r s a = There (item_code (rate_form r P)) s (8 * a)

-- The walk's number is 0 exactly when the image and the rate are valid and a phrase begins at the address.
abbrev pub RatedAccepts : Type 0
RatedAccepts =
    (P : ℕ) (r : FrameRate) (s : List ℕ) (a : ℕ)
    → ((rated_walk_of P r s a).refusal ≡ TAKEN)
    ↔ ((image_valid s ≡ true) × (rate_valid r ≡ true) × ((is : List Item) × RatedPhraseAt P r s a is))

-- It reports the phrase's frames, the sum of their bits and that of their intervals.
abbrev pub RatedCounts : Type 0
RatedCounts =
    (P : ℕ) (r : FrameRate) (s : List ℕ) (a : ℕ) (is : List Item) → image_valid s ≡ true → rate_valid r ≡ true → RatedPhraseAt P r s a is
    → rated_walk_of P r s a ≡ rated_accepted (length (bits_all (item_code (rate_form r P)) is)) (length is) (sum_of (kept_intervals (rate_form r P)) is)

-- Where no phrase begins at an address of a valid image, it is refused with 10, and tells how short the image is of the item after the
-- items there.
abbrev pub RatedRefuses : Type 0
RatedRefuses =
    (P : ℕ) (r : FrameRate) (s : List ℕ) (a : ℕ) → image_valid s ≡ true → rate_valid r ≡ true → a < length s
    → ((is : List Item) → RatedPhraseAt P r s a is → ⊥)
    → (is : List Item) → ItemsThere P r s a is
    → rated_walk_of P r s a ≡ walk_cut (short_at (rate_form r P) s (8 * a + length (bits_all (item_code (rate_form r P)) is)))

-- No second phrase begins at an address: two have the same kinds, indexes and rates.
abbrev pub RatedUnique : Type 0
RatedUnique = (P : ℕ) (r : FrameRate) (s : List ℕ) (a : ℕ) (is js : List Item) → RatedPhraseAt P r s a is → RatedPhraseAt P r s a js → is ≡ js

-- The items that the reader finds from an address of the image on are the items there, and no others are.
abbrev pub RatedThere : Type 0
RatedThere =
    (P : ℕ) (r : FrameRate) (s : List ℕ) (a : ℕ) (is : List Item) → a < length s → ItemsThere P r s a is ↔ (items_at (rate_form r P) s a ≡ is)

-- At v = 0, rr = 00 all three are the TMS5220's.
pub record RatedPlain (P : ℕ) (s : List ℕ) (a : ℕ) : Type 0 where
  pub walk : rated_walk_of P power_up_rate s a ≡ walk_of P s a
  pub phrase : rated_phrase_of P power_up_rate s a ≡ phrase_of P s a
  pub taken : let t = rated_taken_of P 0 s a in record { refusal = t.refusal; frame = t.frame; bits = t.bits; short = t.short } ≡ frame_taken_of P s a
  pub rate : (rated_taken_of P 0 s a).rate ≡ 0
