-- What is proved of the FIFO: what it holds, and which frame is taken from it.
use Rattle.std.specs.Prelude.{◌≡◌, ◌↔◌, ℕ, ◌+◌, ◌*◌, ◌-◌, ◌<◌, ◌≤◌, length, drop}
use mathlib.Core.List.{List, ◌++◌, IsPrefix}
use Rattle.rom.specs.Bits.{bits_of_bytes}
use Rattle.rom.specs.Items.{whole, cut}
use Rattle.rom.specs.Reader.{short_of}
use Rattle.rom.specs.Prefix.{prefixed_code, read_prefixed}
use Rattle.rom.specs.declared.frames.Frame.{Frame}
use Rattle.fifo.specs.declared.BitOrder.{BitOrder}
use Rattle.fifo.specs.declared.Fifo.{Fifo}
use Rattle.fifo.specs.Buffer.{fifo_size, appended, used_up, bits_of_byte, bits_leaving, held_bits, read_bytes, held_bytes}

-- what a FIFO in its ranges has, in every mode: 16 bytes, of which the level are held, and no more bits used than held
pub record Fits (f : Fifo) : Type 0 where
  pub size : length f.bytes ≡ fifo_size
  pub level : f.level ≤ fifo_size
  pub used : f.used_bits ≤ 8 * f.level

-- The FIFO holds eight bits for each byte, less those used.
abbrev pub HeldLength : Type 0
HeldLength = (f : Fifo) → Fits f → length (held_bits f) ≡ 8 * f.level - f.used_bits

-- The bytes as the frame reader takes them have the bits that leave, in their order.
abbrev pub ReadBits : Type 0
ReadBits = (o : BitOrder) (bs : List ℕ) → bits_of_bytes (read_bytes o bs) ≡ bits_leaving o bs

-- A byte more puts its bits after those held.
abbrev pub HeldAppended : Type 0
HeldAppended = (f : Fifo) (b : ℕ) → Fits f → f.level < fifo_size → held_bits (appended f b) ≡ held_bits f ++ bits_of_byte f.order b

-- With n bits of those held gone, all of them perhaps, it holds the rest.
abbrev pub HeldUsed : Type 0
HeldUsed = (f : Fifo) (n : ℕ) → Fits f → n ≤ length (held_bits f) → held_bits (used_up f (f.used_bits + n)) ≡ drop n (held_bits f)

-- The reader, on the bytes held and from the first bit not used, returns a whole item, its prefix and frame, and `next`, exactly when
-- the item is proper, the bits held begin with its bits, and `next` is the bit after them. Q is the width of the prefix, P that of the
-- pitch field.
abbrev pub HeldFrame : Type 0
HeldFrame =
    (Q P : ℕ) (f : Fifo) (i : ℕ × Frame) (next : ℕ) → Fits f
    → (read_prefixed Q P (held_bytes f) f.used_bits ≡ whole i next)
    ↔ ((prefixed_code Q P).Proper i × IsPrefix ((prefixed_code Q P).bits i) (held_bits f) × (next ≡ f.used_bits + length ((prefixed_code Q P).bits i)))

-- It returns that the bits end, and how short they are, exactly when those held begin with the bits of no proper item.
abbrev pub HeldCut : Type 0
HeldCut =
    (Q P : ℕ) (f : Fifo) → Fits f
    → (read_prefixed Q P (held_bytes f) f.used_bits ≡ cut (short_of P (held_bytes f) f.used_bits (f.used_bits + Q)))
    ↔ ((i : ℕ × Frame) → (prefixed_code Q P).Proper i → IsPrefix ((prefixed_code Q P).bits i) (held_bits f) → ⊥)
