-- The form of a device's frames: how they stand in the bits, and how many intervals they skip; and the walk and the frame taken over
-- frames of any form.
use Rattle.std.specs.Prelude.{Option, Some, None, Result, Ok, Err, cond, List, ℕ, ◌+◌, ◌*◌, ◌-◌, ◌<◌, length}
use Rattle.base.specs.Answers.{number_of, no_shortfall, shortfall_of}
use Rattle.base.specs.Refusals.{TAKEN, NO_PHRASE}
use Rattle.base.specs.Units.{frames, intervals, intervals_per_frame, samples_of}
use Rattle.base.specs.declared.refusal.Refusal.{Refusal}
use Rattle.base.specs.declared.refusal.Shortfall.{Shortfall}
use Rattle.rom.specs.Frames.{bit_count}
use Rattle.rom.specs.Items.{Code, ItemAnswer, whole, cut, items_from, has_stop, bits_all, sum_of}
use Rattle.rom.specs.Phrases.{Walked, walk_cut}
use Rattle.rom.specs.Prefix.{prefixed_code, read_prefixed}
use Rattle.rom.specs.Reader.{short_of}
use Rattle.rom.specs.declared.frames.Frame.{Frame}
use Rattle.rom.specs.declared.reader.Taken.{Taken}

-- the width of the prefix before each frame, that of the pitch field, and the intervals that a frame with a prefix skips
pub record Form : Type 0 where
  pub prefix : ℕ
  pub pitch : ℕ
  pub skips : ℕ → ℕ

-- frames without a prefix, which skip nothing; P is the width of the pitch field
abbrev pub plain_form : ℕ → Form
plain_form P = record { prefix = 0; pitch = P; skips = λ q. 0 }

-- no frame skips all of its intervals
abbrev pub KeepsSome : Form → Type 0
KeepsSome F = (q : ℕ) → F.skips q < intervals_per_frame

-- a prefix's value, 0 where there is none, and its frame
abbrev pub Item : Type 0
Item = ℕ × Frame

-- a frame without a prefix
abbrev pub plain : Frame → Item
plain f = (0, f)

-- the items of a form, with their bits
abbrev pub item_code : Form → Code
item_code F = prefixed_code F.prefix F.pitch

-- their reader
abbrev pub read_item : Form → List ℕ → ℕ → ItemAnswer Item
read_item F = read_prefixed F.prefix F.pitch

-- how short the image s is of the item at bit `at` (02, §4)
abbrev pub short_at : Form → List ℕ → ℕ → Shortfall
short_at F s at = short_of F.pitch s at (at + F.prefix)

-- the intervals of an item: those that it does not skip
abbrev pub kept_intervals : Form → Item → ℕ
kept_intervals F i = intervals_per_frame - F.skips i.0

-- ---- the walk

-- the items read from byte address a on
abbrev pub items_at : Form → List ℕ → ℕ → List Item
items_at F s a = items_from (item_code F) (read_item F s) (8 * a) (8 * length s)

-- an accepted walk: the phrase's bits, its frames, and their duration, which follows the rates
abbrev pub rated_accepted : ℕ → ℕ → ℕ → Walked
rated_accepted bits count kept =
    record {
      refusal = TAKEN;
      bits = bits;
      frames = frames count;
      intervals = intervals kept;
      samples = samples_of (intervals kept);
      short = no_shortfall;
    }

-- the walk over items, which stand from bit `start` on: accepted where they end in a stop, else cut in the item after them
abbrev pub rated_over : Form → List ℕ → ℕ → List Item → Walked
rated_over F s start is =
    let bits = length (bits_all (item_code F) is) in
    cond (has_stop (item_code F) is) (rated_accepted bits (length is) (sum_of (kept_intervals F) is)) (walk_cut (short_at F s (start + bits)))

-- ---- the frame taken

-- what taking a frame at a bit returns: the refusal number, the rate bits' value, the frame or none, the bits of both, and with 10 how
-- short the image is
pub record RatedTaken : Type 0 where
  pub refusal : ℕ
  pub rate : ℕ
  pub frame : Option Frame
  pub bits : ℕ
  pub short : Shortfall

-- refused: no frame, and zero for each number but those of number 10
abbrev pub no_rated : ℕ → Shortfall → RatedTaken
no_rated n h = record { refusal = n; rate = 0; frame = None; bits = 0; short = h }

-- by what the reader returns: 0 with the rate, the frame and the bits of both, or 10 with how short the image is
abbrev pub rated_answer : Form → ItemAnswer Item → RatedTaken
rated_answer F (whole (q, f) next) =
    record { refusal = TAKEN; rate = q; frame = Some f; bits = F.prefix + bit_count F.pitch f; short = no_shortfall }
rated_answer F (cut h) = no_rated NO_PHRASE h

-- what an answer of the operation says
abbrev pub rated_taken_answer : Result Taken Refusal → RatedTaken
rated_taken_answer (Ok t) = record { refusal = TAKEN; rate = t.rate; frame = Some t.frame; bits = t.bits; short = no_shortfall }
rated_taken_answer (Err r) = record { refusal = number_of r; rate = 0; frame = None; bits = 0; short = shortfall_of r }
