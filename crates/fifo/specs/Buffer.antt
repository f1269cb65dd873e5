-- The FIFO (01, "Commands, FIFO, status", "State ranges"), and the order in which its bits leave (02, §9).
use Rattle.std.specs.Prelude.{Bool, true, ◌&&◌, List, [], ◌∷◌, ◌++◌, map, reverse, ℕ, ◌+◌, ◌*◌, ◌-◌, ◌/◌, ◌%◌, eqb, leb, length, set, take, drop, replicate}
use Rattle.rom.specs.Bits.{digits}
use Rattle.fifo.specs.declared.BitOrder.{BitOrder}
use Rattle.fifo.specs.declared.BitOrder.TheVariants.{LeastFirst, MostFirst}
use Rattle.fifo.specs.declared.Fifo.{Fifo}

-- bytes of the FIFO
abbrev pub fifo_size : ℕ
fifo_size = 16

-- the most bytes with which BL is set
abbrev pub low_level : ℕ
low_level = 8

-- an empty FIFO, whose bits will leave in an order
abbrev pub empty_fifo : BitOrder → Fifo
empty_fifo o = record { bytes = replicate fifo_size 0; level = 0; used_bits = 0; order = o }

-- held bytes are discarded at a stop, and used up at running out; the order stays
abbrev pub emptied : Fifo → Fifo
emptied f = empty_fifo f.order

-- the FIFO with a byte more
abbrev pub appended : Fifo → ℕ → Fifo
appended f b = record { bytes = set f.bytes f.level b; level = f.level + 1; used_bits = f.used_bits; order = f.order }

-- the FIFO with the first u bits of its bytes out, those used before among them: a byte counts as held until its last bit is out
abbrev pub used_up : Fifo → ℕ → Fifo
used_up f u =
    record { bytes = drop (u / 8) f.bytes ++ replicate (u / 8) 0; level = f.level - u / 8; used_bits = u % 8; order = f.order }

-- BL: 8 bytes or fewer held
abbrev pub buffer_low : Fifo → Bool
buffer_low f = leb f.level low_level

-- BE: none held
abbrev pub buffer_empty : Fifo → Bool
buffer_empty f = eqb f.level 0

-- the bits of a byte in the order in which they leave the FIFO (02, §9)
abbrev pub bits_of_byte : BitOrder → ℕ → List ℕ
bits_of_byte MostFirst b = digits 8 b
bits_of_byte LeastFirst b = reverse (digits 8 b)

-- and those of bytes, one after another
abbrev pub bits_leaving : BitOrder → List ℕ → List ℕ
bits_leaving o [] = []
bits_leaving o (b ∷ bs) = bits_of_byte o b ++ bits_leaving o bs

-- the bits that the FIFO holds, in the order in which they leave it
abbrev pub held_bits : Fifo → List ℕ
held_bits f = drop f.used_bits (bits_leaving f.order (take f.level f.bytes))

-- the number of some bits, the most significant first
abbrev pub number_of : List ℕ → ℕ → ℕ
number_of [] n = n
number_of (b ∷ bs) n = number_of bs (2 * n + b)

-- the byte with its bits in reverse
unfoldable pub reversed : ℕ → ℕ
reversed b = number_of (reverse (digits 8 b)) 0

-- bytes as the frame reader takes them, whose bits are those that leave, most significant first
abbrev pub read_bytes : BitOrder → List ℕ → List ℕ
read_bytes MostFirst bs = bs
read_bytes LeastFirst bs = map reversed bs

-- those held
abbrev pub held_bytes : Fifo → List ℕ
held_bytes f = take f.level (read_bytes f.order f.bytes)

-- each byte is 0
abbrev pub all_zero : List ℕ → Bool
all_zero [] = true
all_zero (b ∷ bs) = eqb b 0 && all_zero bs

-- unheld bytes 0, of 16
abbrev pub clear_from : ℕ → List ℕ → Bool
clear_from level bytes = eqb (length bytes) fifo_size && all_zero (drop level bytes)

-- level least..most, used bits 0..used, unheld bytes 0
abbrev pub fifo_inside : ℕ → ℕ → ℕ → Fifo → Bool
fifo_inside least most used f =
    leb least f.level && leb f.level most && leb f.used_bits used && clear_from f.level f.bytes
