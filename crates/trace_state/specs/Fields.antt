-- The chip as one list of numbers, in the order of the line `C` of a trace, and back.
use Rattle.std.specs.Prelude.{cond, List, map, ℕ, ◌+◌, ℤ, pos, take, drop}
use Rattle.base.specs.Units.{samples, intervals}
use Rattle.chip_numbers.specs.Types.{Device, Tms5220, Tms5220C, AddressRegister, Fifo, Port, Clock, Params, Sound, Chip}
use Rattle.chip_numbers.specs.Fields.{nth, numbers_by}
use Rattle.chip_numbers.specs.Reading.{Reading}
use Rattle.trace_state.specs.Numbers.{wide, natural, short, flag_of, order_of, mode_of}

-- the numbers of a chip
abbrev pub state_numbers : Chip → List ℤ
state_numbers = numbers_by wide

-- position, next nibble
abbrev pub address_of : List ℤ → AddressRegister
address_of s = record { position = natural 4294967295 (nth s 1); next_nibble = natural 255 (nth s 2) }

-- the FIFO's bytes, its level, its used bits and the order of its bits
abbrev pub fifo_of : List ℤ → Fifo
fifo_of s = record {
  bytes = map (natural 255) (take 16 (drop 8 s));
  level = natural 255 (nth s 6);
  used_bits = natural 255 (nth s 7);
  order = order_of (nth s 67);
}

-- data pending, data byte, interrupt, busy samples
abbrev pub port_of : List ℤ → Port
port_of s = record {
  pending = flag_of (nth s 3);
  «data» = natural 255 (nth s 4);
  interrupt = flag_of (nth s 5);
  busy = samples (natural 255 (nth s 68));
}

-- sounding, sample, interval
abbrev pub clock_of : List ℤ → Clock
clock_of s = record {
  sounding = flag_of (nth s 24);
  sample = samples (natural 255 (nth s 25));
  interval = intervals (natural 255 (nth s 26));
}

-- the parameters from number `at` on
abbrev pub params_of : List ℤ → ℕ → Params
params_of s at = record {
  energy = pos (natural 32767 (nth s at));
  pitch = pos (natural 32767 (nth s (at + 1)));
  k = map short (take 10 (drop (at + 2) s));
}

-- a TMS5220C with its v and rr, or a TMS5220, which has none
abbrev pub device_of : List ℤ → Device
device_of s = cond (flag_of (nth s 63)) (Tms5220C (record { v = natural 255 (nth s 64); rr = natural 255 (nth s 65) })) Tms5220

-- currents, targets, filter memory, noise register, pulse place, whether the frame holds
abbrev pub sound_of : List ℤ → Sound
sound_of s = record {
  current = params_of s 29;
  target = params_of s 41;
  memory = map short (take 10 (drop 53 s));
  noise = natural 32767 (nth s 27);
  pulse = natural 32767 (nth s 28);
  hold = flag_of (nth s 66);
}

-- the chip of a list of numbers; a number beyond its field's range in the format becomes the nearest end of the range
unfoldable pub chip_of : List ℤ → Chip
chip_of s = record {
  control = record { mode = mode_of (nth s 0); address = address_of s; fifo = fifo_of s; port = port_of s; clock = clock_of s; device = device_of s };
  sound = sound_of s;
}

-- numbers read so
abbrev pub clamping : Reading
clamping = record {
  natural = natural;
  byte = natural 255;
  level = λ z. pos (natural 32767 z);
  signed = short;
  held_level = λ s. natural 255 (nth s 6);
}
