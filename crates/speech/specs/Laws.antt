-- What is proved of a step: in external speech a boundary takes the frame that the bits held begin with; and how short the bits are where
-- they run out. P is the width of the pitch field.
use Rattle.std.specs.Prelude.{◌≡◌, true, ℕ, ◌+◌, length}
use mathlib.Core.List.{List, IsPrefix}
use Rattle.rom.specs.Items.{whole, cut}
use Rattle.fifo.specs.Buffer.{held_bits, held_bytes}
use Rattle.rates.specs.Form.{Item, item_code, short_at}
use Rattle.reports.specs.Reports.{out_of_rom}
use Rattle.control.specs.Validity.{fifo_valid}
use Rattle.speech.specs.Types.{External, Control, RanOut}
use Rattle.speech.specs.Advance.{form_of, from_fifo, boundary_in, advanced}

-- the item, its rate bits and frame, is proper and the bits held begin with its bits
abbrev pub HeldFirst : ℕ → Control → Item → Type 0
HeldFirst P k i = (item_code (form_of P k)).Proper i × IsPrefix ((item_code (form_of P k)).bits i) (held_bits k.fifo)

-- FIFO bits leave in order: a boundary in external speech takes the rate bits and the frame that the bits held begin with
abbrev pub FifoFrame : Type 0
FifoFrame =
    (P : ℕ) (image : List ℕ) (k : Control) (i : Item) → fifo_valid External k.fifo ≡ true → HeldFirst P k i
    → boundary_in P External image k ≡ from_fifo k (whole i (k.fifo.used_bits + length ((item_code (form_of P k)).bits i)))

-- and where they begin with none, they end inside a frame, which lacks the bits that the reader counts
abbrev pub FifoEnds : Type 0
FifoEnds =
    (P : ℕ) (image : List ℕ) (k : Control) → fifo_valid External k.fifo ≡ true
    → ((i : Item) → HeldFirst P k i → ⊥) → boundary_in P External image k ≡ from_fifo k (cut (short_at (form_of P k) (held_bytes k.fifo) k.fifo.used_bits))

-- Where a step runs out, but not in external speech, it tells how short the image is of the frame at the position (02, §4)
abbrev pub RomEnds : Type 0
RomEnds =
    (P : ℕ) (image : List ℕ) (k : Control) → (k.mode ≡ External → ⊥) → (advanced P image k).report ≡ RanOut
    → (advanced P image k).details ≡ out_of_rom (short_at (form_of P k) image k.address.position)
