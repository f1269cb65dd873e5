-- What is proved of the list.
use Rattle.std.specs.Prelude.{◌≡◌, List, ℕ, ◌≤◌, ◌<◌, ◌^◌, ℤ, pos, length, get_or}
use Rattle.base.specs.Range.{Between}
use Rattle.control.specs.Device.{rate_of}
use Rattle.trace_script.specs.Script.{state_length}
use Rattle.chip_numbers.specs.Types.{Params, Chip}
use Rattle.trace_state.specs.Fields.{state_numbers, chip_of}

-- ten numbers of 16 bits
pub record TenShorts (s : List ℤ) : Type 0 where
  pub ten : length s ≡ 10
  pub shorts : (i : ℕ) → Between 32768 32767 (get_or s i (pos 0))

-- parameters in the format's ranges
pub record ParamsInFormat (v : Params) : Type 0 where
  pub energy : Between 0 32767 v.energy
  pub pitch : Between 0 32767 v.pitch
  pub k : TenShorts v.k

-- A chip in the ranges of the trace format's `S` records. A level may be more than the bytes that the FIFO has.
pub record InFormat (c : Chip) : Type 0 where
  pub position : c.control.address.position < 2 ^ 32
  pub next_nibble : c.control.address.next_nibble ≤ 255
  pub «data» : c.control.port.«data» ≤ 255
  pub busy : c.control.port.busy.0 ≤ 255
  pub level : c.control.fifo.level ≤ 255
  pub used_bits : c.control.fifo.used_bits ≤ 255
  pub sixteen : length c.control.fifo.bytes ≡ 16
  pub bytes : (i : ℕ) → get_or c.control.fifo.bytes i 0 ≤ 255
  pub sample : c.control.clock.sample.0 ≤ 255
  pub interval : c.control.clock.interval.0 ≤ 255
  pub v : (rate_of c.control.device).v ≤ 255
  pub rr : (rate_of c.control.device).rr ≤ 255
  pub noise : c.sound.noise ≤ 32767
  pub pulse : c.sound.pulse ≤ 32767
  pub current : ParamsInFormat c.sound.current
  pub target : ParamsInFormat c.sound.target
  pub memory : TenShorts c.sound.memory

-- There are as many numbers as `state_length` says, of a chip that has as many bytes, K and memories as the types say.
abbrev pub StateLength : Type 0
StateLength = (c : Chip) → InFormat c → length (state_numbers c) ≡ state_length

-- Such a chip comes back from its numbers as it was.
abbrev pub ComesBack : Type 0
ComesBack = (c : Chip) → InFormat c → chip_of (state_numbers c) ≡ c
