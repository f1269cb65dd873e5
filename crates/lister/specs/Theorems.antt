-- What is proved of the listing, whatever is asked for. The file of the same name in proofs/ has the proofs. 01's listing is
-- that of `at_start`: address 0, and an image of at most 65,536 bytes.
use Rattle.std.specs.Prelude.{◌≡◌, true, false, List, [], ◌∷◌, ◌++◌, ℕ, ◌+◌, ◌*◌, ◌/◌, ◌≤◌, ◌<◌, length}
use Rattle.base.specs.Refusals.{BEYOND, IMAGE}
use Rattle.rom.specs.Bits.{image_valid}
use Rattle.rom.specs.Frames.{pitch_width}
use Rattle.rom.specs.Items.{bits_all}
use Rattle.rom.specs.Phrases.{frame_code, PhraseAt, FramesThere}
use Rattle.rom.specs.Reader.{short_of}
use Rattle.rom.specs.declared.frames.Frame.{Frame}
use Rattle.lister.specs.Text.{codes, decimal}
use Rattle.lister.specs.Lines.{phrase_line, refused_line, cut_line}
use Rattle.lister.specs.declared.asked.Asked.{Asked}
use Rattle.lister.specs.Asked.{at_argument}
use Rattle.lister.specs.Listing.{lines_of, listing_of, listing, listing_from}

-- Where a phrase, the frames fs, begins at the address in a valid image that the lister takes, it lists the phrase's frames,
-- bits and bytes, and then the frames, the first of which begins at the address's first bit.
abbrev pub ListsPhrase : Type 0
ListsPhrase =
    (q : Asked) (s : List ℕ) (fs : List Frame) → image_valid s ≡ true → length s ≤ q.most → PhraseAt pitch_width s q.address fs
    → let bits = length (bits_all (frame_code pitch_width) fs) in
    listing_of q s ≡ phrase_line (length fs) bits ((bits + 7) / 8) ++ lines_of (8 * q.address) fs

-- Where no phrase begins at an address in the image, it prints `refused 10`, where the frame after the frames there begins, and how many
-- bits that frame lacks.
abbrev pub ListsNoPhrase : Type 0
ListsNoPhrase =
    (q : Asked) (s : List ℕ) → image_valid s ≡ true → length s ≤ q.most → q.address < length s
    → ((fs : List Frame) → PhraseAt pitch_width s q.address fs → ⊥)
    → (fs : List Frame) → FramesThere pitch_width s q.address fs
    → let begun = 8 * q.address + length (bits_all (frame_code pitch_width) fs) in
    listing_of q s ≡ cut_line begun (short_of pitch_width s begun begun).missing

-- At or past the image's end it prints `refused 2`.
abbrev pub ListsBeyond : Type 0
ListsBeyond =
    (q : Asked) (s : List ℕ) → image_valid s ≡ true → length s ≤ q.most → length s ≤ q.address
    → listing_of q s ≡ refused_line BEYOND

-- For an image that is longer than the lister takes it prints `refused 3`.
abbrev pub ListsTooLong : Type 0
ListsTooLong = (q : Asked) (s : List ℕ) → q.most < length s → listing_of q s ≡ refused_line IMAGE

-- So it does for an image that is not valid: empty, or above 262,144 bytes.
abbrev pub ListsNoImage : Type 0
ListsNoImage = (q : Asked) (s : List ℕ) → image_valid s ≡ false → listing_of q s ≡ refused_line IMAGE

-- With the decimal digits of a as its argument it lists from a, however large.
abbrev pub ListsAtArgument : Type 0
ListsAtArgument = (a : ℕ) (s : List ℕ) → listing_of (at_argument (decimal a)) s ≡ listing_from a s

-- The listing of 03 83 E0 (01, "Numbers to try").
abbrev pub ListsExample : Type 0
ListsExample =
    listing (0x03 ∷ 0x83 ∷ 0xE0 ∷ [])
    ≡ codes "phrase 3 frames 19 bits 3 bytes\n0 silence 0 -\n4 repeat 3 1\n15 stop 15 -\n"

-- The listing of FF 03 83 E0 from address 1 on: the first bits are bits of the image.
abbrev pub ListsExampleFrom : Type 0
ListsExampleFrom =
    listing_from 1 (0xFF ∷ 0x03 ∷ 0x83 ∷ 0xE0 ∷ [])
    ≡ codes "phrase 3 frames 19 bits 3 bytes\n8 silence 0 -\n12 repeat 3 1\n23 stop 15 -\n"

-- The listing of 03 83, whose last frame begins at bit 15 and lacks 3 bits (02, §4).
abbrev pub ListsExampleCut : Type 0
ListsExampleCut = listing (0x03 ∷ 0x83 ∷ []) ≡ codes "refused 10 15 3\n"
