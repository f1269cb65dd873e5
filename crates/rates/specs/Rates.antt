-- The frame rate of the TMS5220C (02, §5; 000, Load Frame Rate).
use Rattle.std.specs.Prelude.{Bool, cond, ◌&&◌, ℕ, ◌*◌, ◌/◌, ◌%◌, eqb, leb}
use Rattle.base.specs.Units.{intervals}
use Rattle.base.specs.declared.units.Intervals.{Intervals}
use Rattle.rates.specs.declared.rate.FrameRate.{FrameRate}

-- power-up and Reset mean v = 0, rr = 00
abbrev pub power_up_rate : FrameRate
power_up_rate = record { v = 0; rr = 0 }

-- state ranges: v 0..1, rr 0..3
abbrev pub rate_valid : FrameRate → Bool
rate_valid r = leb r.v 1 && leb r.rr 3

-- the byte x0x0xvrr
abbrev pub rate_of_byte : ℕ → FrameRate
rate_of_byte b = record { v = b / 4 % 2; rr = b % 4 }

-- with v = 1 every frame starts with two rate bits
abbrev pub prefix_bits : FrameRate → ℕ
prefix_bits r = cond (eqb r.v 0) 0 2

-- the rate of a frame with the rate bits q: rr with v = 0, else q
abbrev pub rate_with : FrameRate → ℕ → ℕ
rate_with r q = cond (eqb r.v 0) r.rr q

-- a shorter frame skips the first 0, 2, 4 or 6 intervals
abbrev pub skipped_with : FrameRate → ℕ → Intervals
skipped_with r q = intervals (2 * (rate_with r q % 4))
