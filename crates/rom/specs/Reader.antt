-- The frame reader, and the operation that takes a frame at a bit (01, "Frames", "Refusal numbers"). P is the width of
-- the pitch field.
use Rattle.std.specs.Prelude.{Option, Some, None, Result, Ok, Err, cond, List, ℕ, ◌+◌, ◌*◌, ◌-◌, max, eqb, leb, ltb, length}
use Rattle.base.specs.Answers.{number_of, no_shortfall, shortfall_of}
use Rattle.base.specs.Refusals.{TAKEN, NO_PHRASE, unless_fault}
use Rattle.base.specs.declared.refusal.Refusal.{Refusal}
use Rattle.base.specs.declared.refusal.Shortfall.{Shortfall}
use Rattle.rom.specs.Bits.{field, image_fault}
use Rattle.rom.specs.Frames.{bit_count}
use Rattle.rom.specs.declared.frames.Frame.{Frame}
use Rattle.rom.specs.declared.frames.Frame.TheVariants as frame
use Rattle.rom.specs.declared.head.Head.{Head}
use Rattle.rom.specs.declared.head.Kind.{Kind}
use Rattle.rom.specs.declared.head.Kind.TheVariants.{Silence, Stop, Repeat, Unvoiced, Voiced}
use Rattle.rom.specs.declared.reader.Taken.{Taken}

-- the unvoiced frame whose K1 to K4 stand from bit `at` on
abbrev pub unvoiced_at : List ℕ → ℕ → ℕ → Frame
unvoiced_at s at e = frame.Unvoiced e (field s at 5) (field s (at + 5) 5) (field s (at + 10) 4) (field s (at + 14) 4)

-- the voiced frame whose K1 to K10 stand from bit `at` on
abbrev pub voiced_at : List ℕ → ℕ → ℕ → ℕ → Frame
voiced_at s at e p =
    frame.Voiced e p (field s at 5) (field s (at + 5) 5) (field s (at + 10) 4) (field s (at + 14) 4) (field s (at + 18) 4)
    (field s (at + 22) 4) (field s (at + 26) 4) (field s (at + 30) 3) (field s (at + 33) 3) (field s (at + 36) 3)

-- the energy of a silence
abbrev pub silence_code : ℕ
silence_code = 0

-- the energy of a stop; the central law ties both to the table of kinds
abbrev pub stop_code : ℕ
stop_code = 15

-- the head of the frame at bit `at`
abbrev pub head_at : ℕ → List ℕ → ℕ → Head
head_at P s at = record { energy = field s at 4; repeat = field s (at + 4) 1; pitch = field s (at + 5) P }

-- the kind that a head gives
abbrev pub kind_of : Head → Kind
kind_of h =
    cond (eqb h.energy silence_code) Silence
    (cond (eqb h.energy stop_code) Stop
    (cond (eqb h.repeat 1) Repeat
    (cond (eqb h.pitch 0) Unvoiced Voiced)))

-- the bits of a frame of a kind: the sum of the widths that the table of kinds gives its fields
abbrev pub kind_bits : ℕ → Kind → ℕ
kind_bits P Silence = 4
kind_bits P Stop = 4
kind_bits P Repeat = 5 + P
kind_bits P Unvoiced = 23 + P
kind_bits P Voiced = 44 + P

-- the frame of a kind with the head h, whose K stand from bit k on
abbrev pub frame_of : Kind → Head → List ℕ → ℕ → Frame
frame_of Silence h s k = frame.Silence
frame_of Stop h s k = frame.Stop
frame_of Repeat h s k = frame.Repeat h.energy h.pitch
frame_of Unvoiced h s k = unvoiced_at s k h.energy
frame_of Voiced h s k = voiced_at s k h.energy h.pitch

-- the frame in the bits from bit `at` on, as if zeros followed the image's last bit
unfoldable pub decoded : ℕ → List ℕ → ℕ → Frame
decoded P s at = let h = head_at P s at in frame_of (kind_of h) h s (at + 5 + P)

-- ---- how short the bits are (02, §4)

-- the bit up to which a frame at bit `at`, which would end at bit `next`, is counted where the bits end at bit `end`: a cut energy up to
-- 4 of its bits, a cut repeat or pitch up to 11; later the kind is known
abbrev pub counted_to : ℕ → ℕ → ℕ → ℕ → ℕ
counted_to P at next end = cond (ltb end (at + 4)) (at + 4) (cond (ltb end (at + 5 + P)) (at + 5 + P) next)

-- the same with its prefix, which begins at bit `begun`. Where not even the first bit is there, all that are counted are missing, even
-- past the image's end
abbrev pub cut_at : ℕ → ℕ → ℕ → ℕ → ℕ → Shortfall
cut_at P begun at next end = let there = max begun end in record { begun = begun; missing = counted_to P at next there - there }

-- how short the image s is of the frame at bit `at`, which with its prefix begins at bit `begun`
unfoldable pub short_of : ℕ → List ℕ → ℕ → ℕ → Shortfall
short_of P s begun at = cut_at P begun at (at + bit_count P (decoded P s at)) (8 * length s)

-- ---- the reader

-- a frame is taken whole, with the bit after it, or the image ends inside it or before it
abbrev pub FrameAnswer : Type 0
FrameAnswer = Result (Frame × ℕ) Shortfall

-- the frame answer where the frame stands at bit `at`, and with its prefix it
-- begins at bit `begun`
unfoldable pub frame_from : ℕ → List ℕ → ℕ → ℕ → FrameAnswer
frame_from P s begun at =
    let f = decoded P s at in
    cond (leb (at + bit_count P f) (8 * length s)) (Ok (f, at + bit_count P f)) (Err (short_of P s begun at))

-- without a prefix
abbrev pub frame_at : ℕ → List ℕ → ℕ → FrameAnswer
frame_at P s at = frame_from P s at at

-- what taking a frame at a bit returns: the refusal number, the frame or none, its bits, and with 10 how short the image is
pub record FrameTaken : Type 0 where
  pub refusal : ℕ
  pub frame : Option Frame
  pub bits : ℕ
  pub short : Shortfall

-- a refused call: no frame, and zero for each number but those of number 10
abbrev pub no_frame : ℕ → Shortfall → FrameTaken
no_frame n h = record { refusal = n; frame = None; bits = 0; short = h }

-- what the operation returns for each frame answer: 0 with the frame and its bits, or 10 with how short the image is
abbrev pub taken_of : ℕ → FrameAnswer → FrameTaken
taken_of P (Ok (f, next)) = record { refusal = TAKEN; frame = Some f; bits = bit_count P f; short = no_shortfall }
taken_of P (Err h) = no_frame NO_PHRASE h

-- the frame taken at a bit of an image, refused at or past its end
unfoldable pub frame_taken_of : ℕ → List ℕ → ℕ → FrameTaken
frame_taken_of P s bit =
    unless_fault (image_fault s (leb (8 * length s) bit)) (λ n. no_frame n no_shortfall) (taken_of P (frame_at P s bit))

-- what an answer of the operation says
abbrev pub taken_answer : Result Taken Refusal → FrameTaken
taken_answer (Ok t) = record { refusal = TAKEN; frame = Some t.frame; bits = t.bits; short = no_shortfall }
taken_answer (Err r) = record { refusal = number_of r; frame = None; bits = 0; short = shortfall_of r }
