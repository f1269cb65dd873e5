-- The phrase walk (01, "Frames", "What acceptance reads"). P is the width of the pitch field.
use Rattle.std.specs.Prelude.{Result, Ok, Err, cond, List, [], ℕ, ◌+◌, ◌*◌, ◌/◌, eqb, leb, length, take, drop}
use Rattle.base.specs.Answers.{number_of, no_shortfall, shortfall_of}
use Rattle.base.specs.Refusals.{TAKEN, NO_PHRASE, unless_fault}
use Rattle.base.specs.Units.{frames, intervals, samples, intervals_of, samples_of}
use Rattle.base.specs.declared.refusal.Refusal.{Refusal}
use Rattle.base.specs.declared.refusal.Shortfall.{Shortfall}
use Rattle.base.specs.declared.units.Frames.{Frames}
use Rattle.base.specs.declared.units.Intervals.{Intervals}
use Rattle.base.specs.declared.units.Samples.{Samples}
use Rattle.rom.specs.Bits.{image_fault}
use Rattle.rom.specs.Frames.{bits_of, Proper, is_stop}
use Rattle.rom.specs.Reader.{FrameAnswer, short_of, frame_at}
use Rattle.rom.specs.Items.{Code, ItemAnswer, whole, cut, items_from, has_stop, bits_all, Phrase, There}
use Rattle.rom.specs.declared.frames.Frame.{Frame}
use Rattle.rom.specs.declared.phrases.Extent.{Extent}

-- frames as items
abbrev pub frame_code : ℕ → Code
frame_code P = record { Item = Frame; Proper = Proper P; bits = bits_of P; stops = is_stop }

-- a phrase, the frames fs, begins at byte address a
abbrev pub PhraseAt : ℕ → List ℕ → ℕ → List Frame → Type 0
PhraseAt P s a = Phrase (frame_code P) s (8 * a)

-- the frames there are fs: the phrase at byte address a or, where none begins, the longest list
abbrev pub FramesThere : ℕ → List ℕ → ℕ → List Frame → Type 0
FramesThere P s a = There (frame_code P) s (8 * a)

-- the frame answer, as that of an item
abbrev pub item_answer_of : FrameAnswer → ItemAnswer Frame
item_answer_of (Ok (f, next)) = whole f next
item_answer_of (Err h) = cut h

-- the frames read from bit `at` on, through the first stop or up to where the bits end; at most n
abbrev pub frames_from : ℕ → List ℕ → ℕ → ℕ → List Frame
frames_from P s = items_from (frame_code P) (λ at. item_answer_of (frame_at P s at))

-- the frames read from byte address a on; each has a bit, so that 8 for each byte of the image are enough
abbrev pub frames_at : ℕ → List ℕ → ℕ → List Frame
frames_at P s a = frames_from P s (8 * a) (8 * length s)

-- what a walk returns: the refusal number, and the phrase's bits, frames and duration; with 10, how short the image is. The number of
-- frames is the duration in frames
pub record Walked : Type 0 where
  pub refusal : ℕ
  pub bits : ℕ
  pub frames : Frames
  pub intervals : Intervals
  pub samples : Samples
  pub short : Shortfall

-- a refused walk: zero for each number but those of number 10
abbrev pub walk_refused_with : ℕ → Shortfall → Walked
walk_refused_with n h = record { refusal = n; bits = 0; frames = frames 0; intervals = intervals 0; samples = samples 0; short = h }

-- zero for each number
abbrev pub walk_refused : ℕ → Walked
walk_refused n = walk_refused_with n no_shortfall

-- the bits end before a stop: where the frame begins that they end in or before, and how many bits it lacks (02, §4)
abbrev pub walk_cut : Shortfall → Walked
walk_cut = walk_refused_with NO_PHRASE

-- an accepted walk: the phrase's bits, and its frames with their duration in intervals (8 each) and samples (200 each)
abbrev pub walk_accepted : ℕ → ℕ → Walked
walk_accepted bits count =
    let fs : Frames = frames count in
    record {
      refusal = TAKEN;
      bits = bits;
      frames = fs;
      intervals = intervals_of fs;
      samples = samples_of (intervals_of fs);
      short = no_shortfall;
    }

-- the walk over the frames fs, which stand from bit `start` on: accepted where they end in a stop, else cut in the frame after them
abbrev pub walked_over : ℕ → List ℕ → ℕ → List Frame → Walked
walked_over P s start fs =
    let bits = length (bits_all (frame_code P) fs) in
    cond (has_stop (frame_code P) fs) (walk_accepted bits (length fs)) (walk_cut (short_of P s (start + bits) (start + bits)))

-- the walk from byte address a, refused at or past the image's length
unfoldable pub walk_of : ℕ → List ℕ → ℕ → Walked
walk_of P s a = unless_fault (image_fault s (leb (length s) a)) walk_refused (walked_over P s (8 * a) (frames_at P s a))

-- what an answer of the operation says. Refused, the record is written out, here and for a frame taken: by `walk_refused_with`, `walk` would
-- promise no more than what that says
abbrev pub walk_answer : Result Extent Refusal → Walked
walk_answer (Ok e) =
    record { refusal = TAKEN; bits = e.bits; frames = e.frames; intervals = e.intervals; samples = e.samples; short = no_shortfall }
walk_answer (Err r) =
    record { refusal = number_of r; bits = 0; frames = frames 0; intervals = intervals 0; samples = samples 0; short = shortfall_of r }

-- the part of the image from a on that holds `bits` bits, through the byte with the last of them, empty where the walk is refused
abbrev pub part_of : List ℕ → ℕ → ℕ → ℕ → List ℕ
part_of s a refusal bits = cond (eqb refusal TAKEN) (take ((bits + 7) / 8) (drop a s)) []

-- the phrase's part
unfoldable pub phrase_of : ℕ → List ℕ → ℕ → List ℕ
phrase_of P s a = let w = walk_of P s a in part_of s a w.refusal w.bits
