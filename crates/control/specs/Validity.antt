-- State ranges (01) of the control.
use Rattle.std.specs.Prelude.{Bool, true, false, not, ◌&&◌, ◌||◌, ℕ, eqb, leb}
use Rattle.address.specs.Addresses.{address_valid}
use Rattle.clock.specs.Counters.{clock_valid}
use Rattle.fifo.specs.Buffer.{fifo_inside}
use Rattle.control.specs.Device.{device_valid}
use Rattle.control.specs.State.{branch_time, is_busy}
use Rattle.control.specs.Types.{Mode, Idle, Rom, Waiting, External, Fifo, Port, Control}

-- a speaking mode
abbrev pub speaks : Mode → Bool
speaks Idle = false
speaks Rom = true
speaks Waiting = false
speaks External = true

-- the idle mode
abbrev pub is_idle : Mode → Bool
is_idle Idle = true
is_idle Rom = false
is_idle Waiting = false
is_idle External = false

-- FIFO level 0 in idle and ROM speech, 0..8 in waiting, 1..16 in external speech: the least
abbrev pub least_level : Mode → ℕ
least_level Idle = 0
least_level Rom = 0
least_level Waiting = 0
least_level External = 1

-- and the most
abbrev pub most_level : Mode → ℕ
most_level Idle = 0
most_level Rom = 0
most_level Waiting = 8
most_level External = 16

-- used bits 0..7, and 0 outside external speech
abbrev pub most_used : Mode → ℕ
most_used Idle = 0
most_used Rom = 0
most_used Waiting = 0
most_used External = 7

-- the FIFO's ranges
abbrev pub fifo_valid : Mode → Fifo → Bool
fifo_valid m f = fifo_inside (least_level m) (most_level m) (most_used m) f

-- pending data: mode idle
abbrev pub pending_valid : Mode → Port → Bool
pending_valid m p = not p.pending || is_idle m

-- no pending data: data byte 0
abbrev pub byte_valid : Port → Bool
byte_valid p = p.pending || eqb p.«data» 0

-- busy 0..2, above 0 only in idle (02, §12)
abbrev pub busy_valid : Mode → Port → Bool
busy_valid m p = leb p.busy.0 branch_time && (not (is_busy p) || is_idle m)

-- the port's ranges
abbrev pub port_valid : Mode → Port → Bool
port_valid m p = pending_valid m p && byte_valid p && busy_valid m p

-- the control's ranges
unfoldable pub control_valid : Control → Bool
control_valid k =
    address_valid k.address && fifo_valid k.mode k.fifo && port_valid k.mode k.port && clock_valid (speaks k.mode) k.clock
    && device_valid k.device
