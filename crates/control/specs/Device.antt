-- The device (02, §5): what the TMS5220 and the TMS5220C differ in.
use Rattle.std.specs.Prelude.{◌≡◌, Bool, true, ℕ}
use Rattle.rates.specs.Rates.{power_up_rate, rate_valid, rate_of_byte}
use Rattle.control.specs.Types.{FrameRate, Device, Tms5220, Tms5220C}

-- the rate of its frames: the TMS5220's are 200 samples long, without rate bits
abbrev pub rate_of : Device → FrameRate
rate_of Tms5220 = power_up_rate
rate_of (Tms5220C r) = r

-- power-up and Reset mean v = 0, rr = 00
abbrev pub at_power_up : Device → Device
at_power_up Tms5220 = Tms5220
at_power_up (Tms5220C r) = Tms5220C power_up_rate

-- both TMS5220s, or both TMS5220Cs: they power up alike
abbrev pub SameKind : Device → Device → Type 0
SameKind d e = at_power_up d ≡ at_power_up e

-- Load Frame Rate: byte x0x0xvrr; nothing on the TMS5220
abbrev pub loaded_rate : Device → ℕ → Device
loaded_rate Tms5220 b = Tms5220
loaded_rate (Tms5220C r) b = Tms5220C (rate_of_byte b)

-- state ranges of the TMS5220C: v 0..1, rr 0..3
abbrev pub device_valid : Device → Bool
device_valid Tms5220 = true
device_valid (Tms5220C r) = rate_valid r
