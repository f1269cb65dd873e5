-- Interpolation (01, "Sound"; 02, §3): at intervals 0 to 7 it adds floor((target - current) / d), d = 8,8,8,4,4,2,2,1; in a
-- frame that holds, at interval 7 alone.
use Rattle.std.specs.Prelude.{Bool, cond, ◌&&◌, ℕ, ltb, ℤ, ◌+ℤ◌, ◌-ℤ◌, get_or}
use mathlib.Core.List.{List, [], ◌∷◌, zip_with}
use Rattle.std.specs.Int.Signed.{shr_z}
use Rattle.base.specs.declared.units.Intervals.{Intervals}
use Rattle.sound.specs.State.{with_current}
use Rattle.sound.specs.declared.params.Params.{Params}
use Rattle.sound.specs.declared.state.Sound.{Sound}

-- current + floor((target - current) / d)
abbrev pub toward_by : ℕ → ℤ → ℤ → ℤ
toward_by d current target = current +ℤ shr_z (target -ℤ current) d

-- d of intervals 0 to 7
abbrev pub divisors : List ℕ
divisors = 8 ∷ 8 ∷ 8 ∷ 4 ∷ 4 ∷ 2 ∷ 2 ∷ 1 ∷ []

-- d of an interval
abbrev pub divisor : Intervals → ℕ
divisor interval = get_or divisors interval.0 1

-- energy, pitch and each K moved towards the target's
abbrev pub toward_params : ℕ → Params → Params → Params
toward_params d current target =
    record {
      energy = toward_by d current.energy target.energy;
      pitch = toward_by d current.pitch target.pitch;
      k = zip_with (toward_by d) current.k target.k;
    }

-- the interval in which the currents reach the targets: its d is 1
abbrev pub arrival : ℕ
arrival = 7

-- in the intervals before it, 0 to 6, a frame that holds keeps the currents (02, §3)
abbrev pub keeps_current : Intervals → Sound → Bool
keeps_current interval s = ltb interval.0 arrival && s.hold

-- the sound after the interpolation at an interval: the currents are kept, or have moved
unfoldable pub interpolated : Intervals → Sound → Sound
interpolated interval s =
    cond (keeps_current interval s) s (with_current (toward_params (divisor interval) s.current s.target) s)
