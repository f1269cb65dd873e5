-- The bytes as the reader takes them have the bits that leave the FIFO, in their order.
-- Assumes nothing.
use mathlib.Core.Path.{◌≡◌, refl, sym, ap, ap₂, ◌∙◌}
use mathlib.Core.List.{List, [], ◌∷◌, ◌++◌, reverse, append_assoc, append-nil}
use Prim.Native.Nat.{ℕ, suc, ◌+◌, ◌*◌, ◌/◌, ◌%◌, ◌<◌}
use native.Mathlib.Nat.{add-zero}
use native.Mathlib.Omega.{arith}
use lib.ListN.{length, take, length-map}
use Rattle.std.proofs.lemmas.List.{take-map}
use Rattle.rom.specs.Bits.{digits}
use Rattle.fifo.specs.declared.BitOrder.{BitOrder}
use Rattle.fifo.specs.declared.BitOrder.TheVariants.{LeastFirst, MostFirst}
use Rattle.fifo.specs.Buffer.{number_of, reversed, read_bytes}
use Rattle.fifo.specs.Laws.{ReadBits}

-- each is 0 or 1
abbrev AllBits : List ℕ → Type 0
AllBits [] = Unit {0}
AllBits (b ∷ bs) = (b < 2) × AllBits bs

one_more : (w : ℕ) (bs : List ℕ) (n b : ℕ) → b < 2 → digits (suc w) (2 * n + b) ++ bs ≡ digits w n ++ (b ∷ bs)
unfolding digits
one_more w bs n b h =
    let q : (2 * n + b) / 2 ≡ n = omega arith in
    let r : (2 * n + b) % 2 ≡ b = omega arith in
    rw (q, r, append_assoc)

-- the digits of the number of bits are these bits, after those of the number before them
number_digits : (w : ℕ) (bs : List ℕ) (n : ℕ) → AllBits bs → digits (w + length bs) (number_of bs n) ≡ digits w n ++ bs
number_digits w [] n h = rw (add-zero, append-nil)
number_digits w (b ∷ bs) n h =
    let e : suc w + length bs ≡ w + suc (length bs) = omega arith in
    ap (λ (m : ℕ). digits m (number_of bs (2 * n + b))) (sym e) ∙ number_digits (suc w) bs (2 * n + b) h.1 ∙ one_more w bs n b h.0

-- the digits of a reversed byte are its digits in reverse
reversed_digits : (b : ℕ) → digits 8 (reversed b) ≡ reverse (digits 8 b)
unfolding digits reversed
reversed_digits b = number_digits 0 (reverse (digits 8 b)) 0 (omega arith)

pub read_bits : ReadBits
read_bits MostFirst [] = refl
read_bits MostFirst (b ∷ bs) = ap (λ (l : List ℕ). digits 8 b ++ l) (read_bits MostFirst bs)
read_bits LeastFirst [] = refl
read_bits LeastFirst (b ∷ bs) = ap₂ (λ (x y : List ℕ). x ++ y) (reversed_digits b) (read_bits LeastFirst bs)

pub length_read : (o : BitOrder) (bs : List ℕ) → length (read_bytes o bs) ≡ length bs
length_read MostFirst bs = refl
length_read LeastFirst bs = length-map bs reversed

pub take_read : (o : BitOrder) (n : ℕ) (bs : List ℕ) → take n (read_bytes o bs) ≡ read_bytes o (take n bs)
take_read MostFirst n bs = refl
take_read LeastFirst n bs = take-map reversed n bs
