-- The chip that a list of numbers says, where a reading says what each number is as a field. The code that reads for a C caller and for a
-- trace is held to it; what they are promised is `chip_of`, in Chips and in the Fields of trace_state.
use Rattle.std.specs.Prelude.{Bool, cond, List, [], ◌∷◌, map, ℕ, ◌+◌, eqb, ℤ, get_or, take, drop}
use Rattle.base.specs.Units.{samples, intervals}
use Rattle.chip_numbers.specs.Types.{BitOrder, LeastFirst, MostFirst, Device, Tms5220, Tms5220C, Mode, Idle, Rom, Waiting, External, AddressRegister, Fifo, Port, Clock, Params, Sound, Chip}
use Rattle.chip_numbers.specs.Fields.{nth}

-- how numbers are read
pub record Reading : Type 0 where
  -- a natural number, with the most that a trace has there
  pub natural : ℕ → ℤ → ℕ
  pub byte : ℤ → ℕ
  -- energy or pitch
  pub level : ℤ → ℤ
  -- K or filter memory
  pub signed : ℤ → ℤ
  -- how many bytes the FIFO holds, of all the numbers
  pub held_level : List ℤ → ℕ

abbrev pub flag_by : Reading → ℤ → Bool
flag_by r z = eqb (r.natural 1 z) 1

abbrev pub order_by : Reading → ℤ → BitOrder
order_by r z = cond (flag_by r z) MostFirst LeastFirst

abbrev pub mode_by : Reading → ℤ → Mode
mode_by r z = get_or (Idle ∷ Rom ∷ Waiting ∷ []) (r.natural 3 z) External

-- ten from number `at` on
abbrev pub ten_by : Reading → List ℤ → ℕ → List ℤ
ten_by r s at = map r.signed (take 10 (drop at s))

-- the FIFO's bytes
abbrev pub held_by : Reading → List ℤ → List ℕ
held_by r s = map r.byte (take 16 (drop 8 s))

abbrev pub address_by : Reading → List ℤ → AddressRegister
address_by r s = record { position = r.natural 4294967295 (nth s 1); next_nibble = r.byte (nth s 2) }

abbrev pub fifo_by : Reading → List ℤ → Fifo
fifo_by r s = record { bytes = held_by r s; level = r.held_level s; used_bits = r.byte (nth s 7); order = order_by r (nth s 67) }

abbrev pub port_by : Reading → List ℤ → Port
port_by r s = record {
  pending = flag_by r (nth s 3);
  «data» = r.byte (nth s 4);
  interrupt = flag_by r (nth s 5);
  busy = samples (r.natural 255 (nth s 68));
}

abbrev pub clock_by : Reading → List ℤ → Clock
clock_by r s = record {
  sounding = flag_by r (nth s 24);
  sample = samples (r.natural 255 (nth s 25));
  interval = intervals (r.natural 255 (nth s 26));
}

abbrev pub device_by : Reading → List ℤ → Device
device_by r s = cond (flag_by r (nth s 63)) (Tms5220C (record { v = r.byte (nth s 64); rr = r.byte (nth s 65) })) Tms5220

abbrev pub params_by : Reading → List ℤ → ℕ → Params
params_by r s at = record { energy = r.level (nth s at); pitch = r.level (nth s (at + 1)); k = ten_by r s (at + 2) }

abbrev pub sound_by : Reading → List ℤ → Sound
sound_by r s = record {
  current = params_by r s 29;
  target = params_by r s 41;
  memory = ten_by r s 53;
  noise = r.natural 32767 (nth s 27);
  pulse = r.natural 32767 (nth s 28);
  hold = flag_by r (nth s 66);
}

abbrev pub chip_by : Reading → List ℤ → Chip
chip_by r s = record {
  control = record {
    mode = mode_by r (nth s 0);
    address = address_by r s;
    fifo = fifo_by r s;
    port = port_by r s;
    clock = clock_by r s;
    device = device_by r s;
  };
  sound = sound_by r s;
}
