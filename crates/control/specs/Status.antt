-- What a bus read finds, and what it does to the port (01, "Commands, FIFO, status").
use Rattle.std.specs.Prelude.{Bool, false, cond, ◌||◌, ℕ, ◌+◌}
use Rattle.control.specs.Types.{Port, Control}
use Rattle.fifo.specs.Buffer.{buffer_low, buffer_empty}
use Rattle.control.specs.Validity.{speaks}

-- the status: TS 80, in a speaking mode; BL 40; BE 20; other bits zero
abbrev pub status_of : Control → ℕ
status_of k = cond (speaks k.mode) 128 0 + cond (buffer_low k.fifo) 64 0 + cond (buffer_empty k.fifo) 32 0

-- the byte that the bus gets: the data byte if one is pending, else the status
abbrev pub bus_byte : Control → ℕ
bus_byte k = cond k.port.pending k.port.«data» (status_of k)

-- the port without a data byte: after every taken command but Read Byte, and after a data read
abbrev pub no_data : Port → Port
no_data p = record { pending = false; «data» = 0; interrupt = p.interrupt; busy = p.busy }

-- the interrupt is set, and stays set
abbrev pub raised_port : Bool → Port → Port
raised_port on p = record { pending = p.pending; «data» = p.«data»; interrupt = p.interrupt || on; busy = p.busy }

-- a data read takes the data byte, a status read clears the interrupt
abbrev pub acknowledged_port : Port → Port
acknowledged_port p = cond p.pending (no_data p) (record { pending = p.pending; «data» = p.«data»; interrupt = false; busy = p.busy })
