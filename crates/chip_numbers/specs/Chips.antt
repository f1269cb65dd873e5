-- The chip as the 69 numbers that a C caller holds, and back.
use Rattle.std.specs.Prelude.{Bool, true, false, cond, ◌&&◌, ◌||◌, List, [], ◌∷◌, map, ℕ, ◌+◌, ℤ, pos, take, drop, replicate}
use Rattle.base.specs.Range.{pos_part, inside}
use Rattle.base.specs.Units.{samples, intervals}
use Rattle.chip_numbers.specs.Types.{Device, Tms5220, Tms5220C, AddressRegister, Fifo, Port, Clock, Params, Sound, Chip}
use Rattle.chip_numbers.specs.Numbers.{number, byte_of, flag_of, order_of, mode_of}
use Rattle.chip_numbers.specs.Fields.{nth, numbers_by}
use Rattle.chip_numbers.specs.Reading.{Reading}

-- how many there are
abbrev pub chip_length : ℕ
chip_length = 69

-- the numbers of a chip
abbrev pub chip_numbers : Chip → List ℤ
chip_numbers = numbers_by number

-- ---- whether each number fits its field

-- the most that an i32 can be
abbrev pub any : ℤ
any = pos 2147483647

abbrev pub byte : ℤ
byte = pos 255

abbrev pub bit : ℤ
bit = pos 1

-- the most of 1..8: mode, position, next nibble, pending, data byte, interrupt, level, used bits. The least is 0, here and below
abbrev pub control_limits : List ℤ
control_limits = pos 3 ∷ any ∷ byte ∷ bit ∷ byte ∷ bit ∷ byte ∷ byte ∷ []

-- of 9..24, the FIFO's bytes
abbrev pub held_limits : List ℤ
held_limits = replicate 16 byte

-- of 25..29: sounding, sample, interval, noise register, pulse place
abbrev pub clock_limits : List ℤ
clock_limits = bit ∷ any ∷ any ∷ any ∷ any ∷ []

-- of 64..69: device, v, rr, hold, order, busy samples. Those between are of signed fields: any number fits, and the ranges judge it
abbrev pub later_limits : List ℤ
later_limits = bit ∷ byte ∷ byte ∷ bit ∷ bit ∷ any ∷ []

-- whether each number is in 0 to its most
abbrev pub within : List ℤ → List ℤ → Bool
within [] s = true
within (m ∷ ms) [] = false
within (m ∷ ms) (z ∷ zs) = inside (pos 0) m z && within ms zs

-- a TMS5220 has v = 0 and rr = 0
abbrev pub rate_fits : List ℤ → Bool
rate_fits s = flag_of (nth s 63) || within (pos 0 ∷ pos 0 ∷ []) (drop 64 s)

-- whether the numbers are some chip's, valid or not
unfoldable pub fits : List ℤ → Bool
fits s =
    within control_limits s && within held_limits (drop 8 s) && within clock_limits (drop 24 s) && within later_limits (drop 63 s) && rate_fits s

-- ---- the chip that the numbers say

-- position, next nibble
abbrev pub address_of : List ℤ → AddressRegister
address_of s = record { position = pos_part (nth s 1); next_nibble = byte_of (nth s 2) }

-- the FIFO's level. Numbers that are no chip's count as a broken range: they say a level that no valid chip has
abbrev pub level_of : List ℤ → ℕ
level_of s = cond (fits s) (byte_of (nth s 6)) 255

-- the FIFO's bytes, its level, its used bits and the order of its bits
abbrev pub fifo_of : List ℤ → Fifo
fifo_of s = record {
  bytes = map byte_of (take 16 (drop 8 s));
  level = level_of s;
  used_bits = byte_of (nth s 7);
  order = order_of (nth s 67);
}

-- data pending, data byte, interrupt, busy samples
abbrev pub port_of : List ℤ → Port
port_of s = record {
  pending = flag_of (nth s 3);
  «data» = byte_of (nth s 4);
  interrupt = flag_of (nth s 5);
  busy = samples (pos_part (nth s 68));
}

-- sounding, sample, interval
abbrev pub clock_of : List ℤ → Clock
clock_of s = record {
  sounding = flag_of (nth s 24);
  sample = samples (pos_part (nth s 25));
  interval = intervals (pos_part (nth s 26));
}

-- a TMS5220C with its v and rr, or a TMS5220, which has none
abbrev pub device_of : List ℤ → Device
device_of s = cond (flag_of (nth s 63)) (Tms5220C (record { v = byte_of (nth s 64); rr = byte_of (nth s 65) })) Tms5220

-- the parameters from number `at` on, counted from 0
abbrev pub params_of : List ℤ → ℕ → Params
params_of s at = record { energy = nth s at; pitch = nth s (at + 1); k = take 10 (drop (at + 2) s) }

-- currents, targets, filter memory, noise register, pulse place, whether the frame holds
abbrev pub sound_of : List ℤ → Sound
sound_of s = record {
  current = params_of s 29;
  target = params_of s 41;
  memory = take 10 (drop 53 s);
  noise = pos_part (nth s 27);
  pulse = pos_part (nth s 28);
  hold = flag_of (nth s 66);
}

-- the chip that the numbers say; one that is not valid, where they are no chip's
unfoldable pub chip_of : List ℤ → Chip
chip_of s = record {
  control = record { mode = mode_of (nth s 0); address = address_of s; fifo = fifo_of s; port = port_of s; clock = clock_of s; device = device_of s };
  sound = sound_of s;
}

-- numbers that fit, read as they are
abbrev pub as_held : Reading
as_held = record {
  natural = λ most. pos_part;
  byte = byte_of;
  level = λ z. z;
  signed = λ z. z;
  held_level = level_of;
}
