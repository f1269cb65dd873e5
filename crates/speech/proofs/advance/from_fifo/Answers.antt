-- A frame ends with the last bit held or before it.
use mathlib.Core.Path.{◌≡◌, ap, ◌∙◌}
use mathlib.Core.List.{List}
use Prim.Native.Nat.{ℕ, ◌≤◌}
use borrow.Author.Rules.{rules}
use native.Mathlib.Omega.{arith}
use lib.ListN.{length, take}
use lib.Seq.{length-take-le}
use Rattle.rom.proofs.WholeFrame.{whole_frame_lem}
use Rattle.fifo.proofs.Orders.{length_read}
use Rattle.speech.proofs.advance.from_fifo.Goals as goal

-- the bytes that are lent to the reader are as many as are held
lent_length : (level : ℕ) (bytes : List ℕ) → length bytes ≡ 16 → level ≤ 16 → length (take level bytes) ≡ level
lent_length level bytes sixteen h = length-take-le level bytes (omega arith)

pub overflow_sub-level : goal.overflow_sub-level
overflow_sub-level c =
    let f = c.args.control.fifo in
    let sixteen : length f.bytes ≡ 16 = search rules in
    let array : length c.read_bytes-bytes.result ≡ 16 =
    ap (λ (l : List ℕ). length l) c.read_bytes-bytes.ensures ∙ length_read f.order f.bytes ∙ sixteen in
    let lent = lent_length f.level c.read_bytes-bytes.result array c.requires.1 in
    let read = rw c.from-level.ensures at c.frame_from-answer.ensures in
    omega (arith, (whole_frame_lem _ _ _ _ read c.in-Ok.is).inside, lent, c.from-level.ensures)

pub use_up-requires : goal.use_up-requires
use_up-requires c =
    let f = c.args.control.fifo in
    let sixteen : length f.bytes ≡ 16 = search rules in
    let array : length c.read_bytes-bytes.result ≡ 16 =
    ap (λ (l : List ℕ). length l) c.read_bytes-bytes.ensures ∙ length_read f.order f.bytes ∙ sixteen in
    let lent = lent_length f.level c.read_bytes-bytes.result array c.requires.1 in
    let read = rw c.from-level.ensures at c.frame_from-answer.ensures in
    (omega (arith, (whole_frame_lem _ _ _ _ read c.in-Ok.is).inside, lent), c.requires.1)
