-- What left the FIFO, part by part, as a history tells it (02, §10): nothing here looks at a chip.
use Rattle.std.specs.Prelude.{◌≡◌, true, false, cond, ◌&&◌, List, [], ◌∷◌, ◌++◌, ℕ, eqb, length}
use Rattle.base.specs.Refusals.{TAKEN}
use Rattle.account.specs.Types.{Frame, Stop, Details, Report, NoReport, FrameReport, StopReport, RanOut}
use Rattle.account.specs.Entries.{Entry, wrote, stepped, looked, Reading, next, byte_bits, frame_bits}

-- the bits of the byte that an entry takes into the FIFO
abbrev pub bits_in : Reading → Entry → List ℕ
bits_in t (wrote b n) = cond (t.external && eqb n TAKEN) (byte_bits t b) []
bits_in t (stepped n r d) = []
bits_in t looked = []

-- and of all the bytes, in order
abbrev pub bits_taken : Reading → List Entry → List ℕ
bits_taken t [] = []
bits_taken t (e ∷ es) = bits_in t e ++ bits_taken (next t e) es

-- bits that leave the FIFO together: given to the frame reader, or thrown away
pub data Part : Type 0 where
  given : List ℕ → Part
  thrown : List ℕ → Part

-- the bits of parts, one after another
abbrev pub bits_of_part : Part → List ℕ
bits_of_part (given l) = l
bits_of_part (thrown l) = l

abbrev pub bits_of_parts : List Part → List ℕ
bits_of_parts [] = []
bits_of_parts (p ∷ ps) = bits_of_part p ++ bits_of_parts ps

-- the parts that leave with an entry
pub data Leaves : Reading → Entry → List Part → Type 0 where
  -- a written byte, a read, an acknowledge and a step that reports nothing: none
  writing : {t : Reading} {b n : ℕ} → Leaves t (wrote b n) []
  looking : {t : Reading} → Leaves t looked []
  nothing : {t : Reading} {n : ℕ} {d : Details} → Leaves t (stepped n NoReport d) []
  -- a frame: its bits
  frame : {t : Reading} {n : ℕ} {f : Frame} {d : Details} → t.external ≡ true
      → Leaves t (stepped n (FrameReport f) d) (given (frame_bits t d f) ∷ [])
  -- a stop: its own bits, and as many others as it reports as thrown away
  stop : {t : Reading} {n : ℕ} {d : Details} (l : List ℕ) → t.external ≡ true → length l ≡ d.thrown
      → Leaves t (stepped n StopReport d) (given (frame_bits t d Stop) ∷ thrown l ∷ [])
  -- running out: as many bits as it reports as used up
  out : {t : Reading} {n : ℕ} {d : Details} (l : List ℕ) → t.external ≡ true → length l ≡ d.used_up
      → Leaves t (stepped n RanOut d) (given l ∷ [])
  -- a step that speaks from ROM: none
  rom_step : {t : Reading} {n : ℕ} {r : Report} {d : Details} → t.external ≡ false → Leaves t (stepped n r d) []

-- the parts that leave with the entries of a history, in order
pub data LeavesAll : Reading → List Entry → List Part → Type 0 where
  done : {t : Reading} → LeavesAll t [] []
  then : {t : Reading} {e : Entry} {es : List Entry} {ps qs : List Part} → Leaves t e ps → LeavesAll (next t e) es qs → LeavesAll t (e ∷ es) (ps ++ qs)
