-- Where the FIFO's bits went (02, §10), over any list of calls from power-up of a device with a bit order: `power_up_of Tms5220 o` is the
-- TMS5220's, `power_up_of (Tms5220C power_up_rate) o` the TMS5220C's.
use Rattle.std.specs.Prelude.{◌≡◌, true, List, [], ◌++◌, ℕ, ◌+◌, ◌*◌, ◌-◌, length}
use Rattle.fifo.specs.Buffer.{held_bits}
use Rattle.control.specs.Device.{device_valid}
use Rattle.chip.specs.State.{power_up_of}
use Rattle.account.specs.Types.{Device, BitOrder, Fifo}
use Rattle.account.specs.Entries.{Call, last_chip, Entry, history, Reading, at_start}
use Rattle.account.specs.Order.{InOrder}
use Rattle.account.specs.Parts.{bits_taken, Part, bits_of_parts, LeavesAll}
use Rattle.account.specs.Counts.{bytes_taken, bits_given, bits_thrown}

-- the history of calls from power-up
abbrev pub from_power_up : Device → BitOrder → List Call → List Entry
from_power_up d o xs = history (power_up_of d o) xs

-- the FIFO after them
abbrev pub last_fifo : Device → BitOrder → List Call → Fifo
last_fifo d o xs = (last_chip (power_up_of d o) xs).control.fifo

-- The bits taken leave in order, and those that the history leaves waiting are the bits that the FIFO holds.
abbrev pub BitsInOrder : Type 0
BitsInOrder =
    (d : Device) (o : BitOrder) → device_valid d ≡ true → (xs : List Call)
    → InOrder (at_start d o) [] (from_power_up d o xs) (held_bits (last_fifo d o xs))

-- Of any entries in order, without a chip: eight times the bytes taken, with the bits waiting before, are the bits given, thrown away
-- and waiting after.
abbrev pub Balance : Type 0
Balance =
    (t : Reading) (queue : List ℕ) (es : List Entry) (left : List ℕ) → InOrder t queue es left
    → 8 * bytes_taken t es + length queue ≡ bits_given t es + bits_thrown es + length left

-- the number of bits that the FIFO holds
abbrev pub bits_held : Fifo → ℕ
bits_held f = 8 * f.level - f.used_bits

-- Eight times the bytes taken into the FIFO are the bits given to the frame reader, those thrown away and those still held.
abbrev pub BitsAccounted : Type 0
BitsAccounted =
    (d : Device) (o : BitOrder) → device_valid d ≡ true → (xs : List Call)
    → let es = from_power_up d o xs in
    8 * bytes_taken (at_start d o) es ≡ bits_given (at_start d o) es + bits_thrown es + bits_held (last_fifo d o xs)

-- what left the FIFO, by the entries `es` from the reading t on, where the bits `queue` wait before them and `left` after them
pub record Apart (t : Reading) (queue : List ℕ) (es : List Entry) (left : List ℕ) : Type 0 where
  pub parts : List Part
  -- the parts are those that the history tells
  pub told : LeavesAll t es parts
  -- one after another, and then the bits left, they are the bits taken
  pub whole : queue ++ bits_taken t es ≡ bits_of_parts parts ++ left

-- Bits given out are the taken ones without those thrown away and those still held, in order, none twice.
abbrev pub BitsApart : Type 0
BitsApart =
    (d : Device) (o : BitOrder) → device_valid d ≡ true → (xs : List Call)
    → Apart (at_start d o) [] (from_power_up d o xs) (held_bits (last_fifo d o xs))
