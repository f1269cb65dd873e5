-- All that the lister prints for an image: without an argument as 01 has it ("Numbers to try", the lister), and with a byte
-- address as its argument.
use Rattle.std.specs.Prelude.{cond, List, [], ◌∷◌, ◌++◌, ◌≡◌, ℕ, zero, suc, ◌+◌, ◌*◌, ◌-◌, ◌≤◌, eqb, ltb, length, take, Some}
use Rattle.base.specs.Refusals.{TAKEN, IMAGE}
use Rattle.rom.specs.Frames.{pitch_width, bit_count, numbers_of}
use Rattle.rom.specs.Phrases.{frames_at, walk_of, phrase_of}
use Rattle.rom.specs.Reader.{frame_taken_of}
use Rattle.rom.specs.declared.frames.Frame.{Frame}
use Rattle.lister.specs.declared.asked.Asked.{Asked}
use Rattle.lister.specs.declared.listing.Filled.{Filled}
use Rattle.lister.specs.Lines.{frame_line, phrase_line, refused_line, walk_line}
use Rattle.lister.specs.Asked.{at_start, at_address}

-- the lines of the frames fs, one after another, the first of which begins at a bit
unfoldable pub lines_of : ℕ → List Frame → List ℕ
lines_of bit [] = []
lines_of bit (f ∷ fs) = frame_line bit (numbers_of (Some f)) ++ lines_of (bit + bit_count pitch_width f) fs

-- The listing of the image s from a byte address on: `refused 3` above the bytes that are taken; where the walk from there is
-- refused, the line of that; else the phrase's line, with the bytes of its part of the image, and the lines of its
-- frames, whose first bits are bits of the image.
unfoldable pub listing_of : Asked → List ℕ → List ℕ
listing_of asked s =
    let a = asked.address in
    let w = walk_of pitch_width s a in
    cond (ltb asked.most (length s)) (refused_line IMAGE)
    (cond (eqb w.refusal TAKEN)
    (phrase_line w.frames.0 w.bits (length (phrase_of pitch_width s a)) ++ lines_of (8 * a) (frames_at pitch_width s a))
    (walk_line w))

-- what is printed without an argument (01)
abbrev pub listing : List ℕ → List ℕ
listing = listing_of at_start

-- what is printed with the address a
abbrev pub listing_from : ℕ → List ℕ → List ℕ
listing_from a = listing_of (at_address a)

-- the line of the frame taken at a bit of the image s
unfoldable pub line_at : List ℕ → ℕ → List ℕ
line_at s bit = frame_line bit (numbers_of (frame_taken_of pitch_width s bit).frame)

-- the bit after that frame
unfoldable pub after : List ℕ → ℕ → ℕ
after s bit = bit + (frame_taken_of pitch_width s bit).bits

-- the lines of n frames taken one after another from a bit on
unfoldable pub lines_from : List ℕ → ℕ → ℕ → List ℕ
lines_from s bit zero = []
lines_from s bit (suc n) = line_at s bit ++ lines_from s (after s bit) n

-- Of the lines of `lines` frames from a bit on, some are in the buffer `out` and the rest are left: what is in use of the
-- buffer, then the lines that are left, is all of them. A buffer with room for a line gets at least one.
pub record Fills (s : List ℕ) (bit lines : ℕ) (out : List ℕ) (r : Filled) : Type 0 where
  pub within : r.used ≤ length out
  pub some : 80 ≤ length out → r.left.count ≤ lines - 1
  pub listed : take r.used out ++ lines_from s r.left.bit r.left.count ≡ lines_from s bit lines
