-- The commands (01, "Commands, FIFO, status"), as the idle chip obeys them: the control after each, and whether the sound goes
-- to rest.
use Rattle.std.specs.Prelude.{true, false, List, ℕ, ◌%◌}
use Rattle.base.specs.Units.{samples}
use Rattle.rom.specs.Bits.{field}
use Rattle.bus.specs.Types.{Mode, Rom, Waiting, Port, Control, Command, LoadFrameRate, ReadByte, ReadAndBranch, LoadAddress, Speak, SpeakExternal, Reset, Accepted}
use Rattle.address.specs.Addresses.{loaded, past_byte, branched, restarted}
use Rattle.clock.specs.Counters.{started}
use Rattle.control.specs.Device.{at_power_up, loaded_rate}
use Rattle.control.specs.State.{power_up_control, with_mode, with_address, with_port, with_clock, with_device, with_busy, branch_time}
use Rattle.control.specs.Status.{no_data}

-- the sound stays as it is
abbrev pub sound_kept : Control → Accepted
sound_kept k = record { control = k; rests = false }

-- TS rising (01, "Sound") puts the sound at rest and starts it
abbrev pub talking : Mode → Control → Accepted
talking m k = record { control = with_clock (started k.clock) (with_mode m k); rests = true }

-- Reset gives the power-up state, in which the sound is at rest; the order of the FIFO's bits survives it (02, §9)
abbrev pub reset : Control → Accepted
reset k = record { control = power_up_control (at_power_up k.device) k.fifo.order; rests = true }

-- the control without pending data
abbrev pub data_dropped : Control → Control
data_dropped k = with_port (no_data k.port) k

-- Read Byte: the eight bits from the position on are the pending data byte
abbrev pub data_taken : List ℕ → Control → Port
data_taken image k =
    record { pending = true; «data» = field image k.address.position 8; interrupt = k.port.interrupt; busy = k.port.busy }

-- Read and Branch takes its time (02, §12): the control that it keeps busy, without pending data
abbrev pub kept_busy : Control → Control
kept_busy k = with_port (with_busy (samples branch_time) (no_data k.port)) k

-- what each command does; b is the byte that it was in
abbrev pub obeyed : List ℕ → Control → ℕ → Command → Accepted
obeyed image k b LoadFrameRate = sound_kept (with_device (loaded_rate k.device b) (data_dropped k))
obeyed image k b ReadByte = sound_kept (with_address (past_byte k.address) (with_port (data_taken image k) k))
obeyed image k b ReadAndBranch = sound_kept (with_address (branched image k.address) (kept_busy k))
obeyed image k b LoadAddress = sound_kept (with_address (loaded k.address (b % 16)) (data_dropped k))
obeyed image k b Speak = talking Rom (with_address (restarted k.address) (data_dropped k))
obeyed image k b SpeakExternal = sound_kept (with_mode Waiting (data_dropped k))
obeyed image k b Reset = reset k
