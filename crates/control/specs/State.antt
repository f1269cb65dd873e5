-- Power-up, and the control with one of its parts changed.
use Rattle.std.specs.Prelude.{Bool, false, ℕ, ltb}
use Rattle.base.specs.Units.{samples, samples_less}
use Rattle.base.specs.declared.units.Samples.{Samples}
use Rattle.address.specs.Addresses.{power_up_address}
use Rattle.clock.specs.Counters.{power_up_clock}
use Rattle.fifo.specs.Buffer.{empty_fifo}
use Rattle.control.specs.Types.{Device, Mode, Idle, AddressRegister, BitOrder, Fifo, Port, Clock, Control}

-- the bytes with which external speaking starts
abbrev pub start_level : ℕ
start_level = 9

-- power-up of a device, with an order in which the FIFO's bits leave (01, "Commands, FIFO, status"; 02, §9): idle, silent, empty FIFO,
-- position 0, no data byte, no interrupt, not busy
abbrev pub power_up_control : Device → BitOrder → Control
power_up_control d o = record {
  mode = Idle;
  address = power_up_address;
  fifo = empty_fifo o;
  port = record { pending = false; «data» = 0; interrupt = false; busy = samples 0 };
  clock = power_up_clock;
  device = d;
}

-- the control in another mode
abbrev pub with_mode : Mode → Control → Control
with_mode m k = record { mode = m; address = k.address; fifo = k.fifo; port = k.port; clock = k.clock; device = k.device }

-- with another address register
abbrev pub with_address : AddressRegister → Control → Control
with_address p k = record { mode = k.mode; address = p; fifo = k.fifo; port = k.port; clock = k.clock; device = k.device }

-- with another FIFO
abbrev pub with_fifo : Fifo → Control → Control
with_fifo f k = record { mode = k.mode; address = k.address; fifo = f; port = k.port; clock = k.clock; device = k.device }

-- with another port
abbrev pub with_port : Port → Control → Control
with_port p k = record { mode = k.mode; address = k.address; fifo = k.fifo; port = p; clock = k.clock; device = k.device }

-- with another clock
abbrev pub with_clock : Clock → Control → Control
with_clock t k = record { mode = k.mode; address = k.address; fifo = k.fifo; port = k.port; clock = t; device = k.device }

-- with another device
abbrev pub with_device : Device → Control → Control
with_device d k = record { mode = k.mode; address = k.address; fifo = k.fifo; port = k.port; clock = k.clock; device = d }

-- the port with another count of busy samples (02, §12)
abbrev pub with_busy : Samples → Port → Port
with_busy n p = record { pending = p.pending; «data» = p.«data»; interrupt = p.interrupt; busy = n }

-- the samples that a taken Read and Branch keeps the chip busy
abbrev pub branch_time : ℕ
branch_time = 2

-- whether it still does
abbrev pub is_busy : Port → Bool
is_busy p = ltb 0 p.busy.0

-- the control n samples on: one less busy for each, not below 0
abbrev pub less_busy : ℕ → Control → Control
less_busy n k = with_port (with_busy (samples_less k.port.busy (samples n)) k.port) k
