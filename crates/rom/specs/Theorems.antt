-- What is proved of the reader and the walk, for every image, address and width P of the pitch field. The proofs are in
-- proofs/: CentralLaw, Shortfalls (of cut frames), Prefixed (of frames after a prefix) and Theorems (of all else).
use Rattle.std.specs.Prelude.{◌≡◌, ◌↔◌, Ok, Err, true, List, ℕ, ◌+◌, ◌*◌, ◌-◌, ◌≤◌, ◌<◌, length}
use Rattle.base.specs.Refusals.{TAKEN}
use Rattle.rom.specs.Bits.{image_valid, Begins}
use Rattle.rom.specs.Frames.{Proper, bits_of}
use Rattle.rom.specs.Reader.{head_at, kind_of, short_of, frame_from, frame_at}
use Rattle.rom.specs.Items.{Lawful, Phrase, There, bits_all, items_from}
use Rattle.rom.specs.Phrases.{frame_code, PhraseAt, FramesThere, frames_at, walk_accepted, walk_cut, walk_of}
use Rattle.rom.specs.Prefix.{prefixed_code, read_prefixed}
use Rattle.rom.specs.declared.frames.Frame.{Frame}
use Rattle.rom.specs.declared.head.Kind.{Kind}
use Rattle.rom.specs.declared.head.Kind.TheVariants.{Unvoiced, Voiced}
use Rattle.base.specs.declared.refusal.Shortfall.{Shortfall}

-- The reader's central law: it returns a whole frame f, and `next`, exactly when f is proper, the image's bits there begin
-- with the bits that the table of kinds gives f, and `next` is the bit after them.
abbrev pub CentralLaw : Type 0
CentralLaw =
    (P : ℕ) (s : List ℕ) (at : ℕ) (f : Frame) (next : ℕ)
    → (frame_at P s at ≡ Ok (f, next)) ↔ (Proper P f × Begins s at (bits_of P f) × (next ≡ at + length (bits_of P f)))

-- How many bits a frame behind a prefix of Q bits lacks, of which some are there, in numbers (02, §4): a cut energy lacks bits up to
-- Q + 4, a cut repeat or pitch up to Q + 5 + P; later the kind k is known.
pub data Counted (Q P : ℕ) (k : Kind) (there missing : ℕ) : Type 0 where
  energy : there < Q + 4 → there + missing ≡ Q + 4 → Counted Q P k there missing
  pitch : Q + 4 ≤ there → there < Q + 5 + P → there + missing ≡ Q + 5 + P → Counted Q P k there missing
  unvoiced : Q + 5 + P ≤ there → k ≡ Unvoiced → there + missing ≡ Q + 23 + P → Counted Q P k there missing
  voiced : Q + 5 + P ≤ there → k ≡ Voiced → there + missing ≡ Q + 44 + P → Counted Q P k there missing

-- Where the reader returns a cut frame, it tells the bit at which the frame began, its prefix among it, and how many bits are missing.
abbrev pub Missing : Type 0
Missing =
    (Q P : ℕ) (s : List ℕ) (at : ℕ) (h : Shortfall) → frame_from P s at (at + Q) ≡ Err h
    → (h.begun ≡ at) × (0 < h.missing) × Counted Q P (kind_of (head_at P s (at + Q))) (8 * length s - at) h.missing

-- The walk's number is 0 exactly when the image is valid and a phrase begins at the address.
abbrev pub WalkAccepts : Type 0
WalkAccepts =
    (P : ℕ) (s : List ℕ) (a : ℕ)
    → ((walk_of P s a).refusal ≡ TAKEN) ↔ ((image_valid s ≡ true) × ((fs : List Frame) × PhraseAt P s a fs))

-- The walk's frames are as many as the phrase's, its bits the sum of their bits.
abbrev pub WalkCounts : Type 0
WalkCounts =
    (P : ℕ) (s : List ℕ) (a : ℕ) (fs : List Frame) → image_valid s ≡ true → PhraseAt P s a fs
    → walk_of P s a ≡ walk_accepted (length (bits_all (frame_code P) fs)) (length fs)

-- Where no phrase begins at an address of a valid image, the walk is refused with 10, and tells how short the image is of the frame
-- after the frames there.
abbrev pub WalkRefuses : Type 0
WalkRefuses =
    (P : ℕ) (s : List ℕ) (a : ℕ) → image_valid s ≡ true → a < length s → ((fs : List Frame) → PhraseAt P s a fs → ⊥)
    → (fs : List Frame) → FramesThere P s a fs
    → let begun = 8 * a + length (bits_all (frame_code P) fs) in
    walk_of P s a ≡ walk_cut (short_of P s begun begun)

-- No second phrase begins at an address: two have the same kinds and indexes.
abbrev pub PhraseUnique : Type 0
PhraseUnique = (P : ℕ) (s : List ℕ) (a : ℕ) (fs gs : List Frame) → PhraseAt P s a fs → PhraseAt P s a gs → fs ≡ gs

-- The frames that the reader finds from an address of the image on are the frames there, and no others are: those of the
-- phrase or, where none begins, those of the longest list.
abbrev pub FramesRead : Type 0
FramesRead = (P : ℕ) (s : List ℕ) (a : ℕ) (fs : List Frame) → a < length s → FramesThere P s a fs ↔ (frames_at P s a ≡ fs)

-- The reader of frames after a prefix of Q bits obeys the central law of these items.
abbrev pub PrefixedLaw : Type 0
PrefixedLaw = (Q P : ℕ) (s : List ℕ) → Lawful (prefixed_code Q P) s (read_prefixed Q P s)

-- What it finds from a bit of the image on are the items there, and no others are.
abbrev pub PrefixedRead : Type 0
PrefixedRead =
    (Q P : ℕ) (s : List ℕ) (at : ℕ) (fs : List (ℕ × Frame)) → at ≤ 8 * length s
    → There (prefixed_code Q P) s at fs ↔ (items_from (prefixed_code Q P) (read_prefixed Q P s) at (8 * length s) ≡ fs)

-- And no two phrases of them begin at an address: two have the same prefixes, kinds and indexes.
abbrev pub PrefixedUnique : Type 0
PrefixedUnique =
    (Q P : ℕ) (s : List ℕ) (a : ℕ) (is js : List (ℕ × Frame)) → Phrase (prefixed_code Q P) s (8 * a) is → Phrase (prefixed_code Q P) s (8 * a) js
    → is ≡ js
