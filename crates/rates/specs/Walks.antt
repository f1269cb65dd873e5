-- The walk told v and rr, its part, and the frame taken told v (02, §5). P is the width of the pitch field.
use Rattle.std.specs.Prelude.{Bool, not, List, [], ◌∷◌, ℕ, ◌*◌, leb, length}
use Rattle.base.specs.Answers.{no_shortfall}
use Rattle.base.specs.Refusals.{BEYOND, IMAGE, STATE, first_fault, unless_fault}
use Rattle.rom.specs.Bits.{image_valid}
use Rattle.rom.specs.Phrases.{Walked, walk_refused, part_of}
use Rattle.rates.specs.Rates.{rate_valid}
use Rattle.rates.specs.Form.{rate_form, read_item}
use Rattle.rates.specs.declared.rate.FrameRate.{FrameRate}
pub use Rattle.rom.specs.Form.{items_at, rated_accepted, rated_over, RatedTaken, no_rated, rated_answer, rated_taken_answer}

-- the fault of a call told a rate: 3, then 4 where the rate is out of range, then 2 where what is asked for lies beyond the end
abbrev pub rate_fault : List ℕ → FrameRate → Bool → ℕ
rate_fault s r beyond = first_fault ((not (image_valid s), IMAGE) ∷ (not (rate_valid r), STATE) ∷ (beyond, BEYOND) ∷ [])

-- ---- the walk

-- the walk from byte address a, told v and rr
unfoldable pub rated_walk_of : ℕ → FrameRate → List ℕ → ℕ → Walked
rated_walk_of P r s a =
    unless_fault (rate_fault s r (leb (length s) a)) walk_refused (rated_over (rate_form r P) s (8 * a) (items_at (rate_form r P) s a))

-- the part of the image that its phrase takes
unfoldable pub rated_phrase_of : ℕ → FrameRate → List ℕ → ℕ → List ℕ
rated_phrase_of P r s a = let w = rated_walk_of P r s a in part_of s a w.refusal w.bits

-- ---- the frame taken

-- v by itself, as a rate
abbrev pub only_v : ℕ → FrameRate
only_v v = record { v = v; rr = 0 }

-- the frame taken at a bit, told v
unfoldable pub rated_taken_of : ℕ → ℕ → List ℕ → ℕ → RatedTaken
rated_taken_of P v s bit =
    let F = rate_form (only_v v) P in
    unless_fault (rate_fault s (only_v v) (leb (8 * length s) bit)) (λ n. no_rated n no_shortfall) (rated_answer F (read_item F s bit))
