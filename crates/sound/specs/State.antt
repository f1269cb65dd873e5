-- The sound with one of its parts changed, its part of a valid state (01, "State ranges"), and the sound at rest (01, "Sound").
use Rattle.std.specs.Prelude.{Bool, false, not, ◌&&◌, List, ℕ, eqb, leb, ℤ, pos, replicate}
use Rattle.base.specs.Range.{inside}
use Rattle.voice.specs.Check.{value_max, k_min, k_max}
use Rattle.filter.specs.Ranges.{stages, memory_min, memory_max, ten_inside}
use Rattle.sound.specs.Noise.{noise_max}
use Rattle.sound.specs.Pulse.{pulse_max}
use Rattle.sound.specs.declared.params.Params.{Params}
use Rattle.sound.specs.declared.state.Sound.{Sound}

-- ---- with one part changed

-- other currents
abbrev pub with_current : Params → Sound → Sound
with_current c s = record { current = c; target = s.target; memory = s.memory; noise = s.noise; pulse = s.pulse; hold = s.hold }

-- other targets
abbrev pub with_target : Params → Sound → Sound
with_target t s = record { current = s.current; target = t; memory = s.memory; noise = s.noise; pulse = s.pulse; hold = s.hold }

-- another filter memory
abbrev pub with_memory : List ℤ → Sound → Sound
with_memory m s = record { current = s.current; target = s.target; memory = m; noise = s.noise; pulse = s.pulse; hold = s.hold }

-- another noise register
abbrev pub with_noise : ℕ → Sound → Sound
with_noise n s = record { current = s.current; target = s.target; memory = s.memory; noise = n; pulse = s.pulse; hold = s.hold }

-- another pulse place
abbrev pub with_pulse : ℕ → Sound → Sound
with_pulse p s = record { current = s.current; target = s.target; memory = s.memory; noise = s.noise; pulse = p; hold = s.hold }

-- holding its currents, or not
abbrev pub with_hold : Bool → Sound → Sound
with_hold h s = record { current = s.current; target = s.target; memory = s.memory; noise = s.noise; pulse = s.pulse; hold = h }

-- ---- ranges

-- energy and pitch in 0..top, ten K in low..high
abbrev pub params_inside : ℤ → ℤ → ℤ → Params → Bool
params_inside top low high v = inside (pos 0) top v.energy && inside (pos 0) top v.pitch && ten_inside low high v.k

-- energy, pitch 0..1023, K -512..511: what a voice file can hold
abbrev pub params_valid : Params → Bool
params_valid v = params_inside (pos value_max) k_min k_max v

-- filter memory -8192..8191
abbrev pub memory_valid : Sound → Bool
memory_valid s = ten_inside memory_min memory_max s.memory

-- noise 1..8191
abbrev pub noise_valid : Sound → Bool
noise_valid s = leb 1 s.noise && leb s.noise noise_max

-- pulse place 0..1022
abbrev pub pulse_valid : Sound → Bool
pulse_valid s = leb s.pulse pulse_max

-- the sound's ranges
unfoldable pub sound_valid : Sound → Bool
sound_valid s = params_valid s.current && params_valid s.target && memory_valid s && noise_valid s && pulse_valid s

-- ---- at rest

-- currents and targets at rest: energy, pitch and K zero
abbrev pub rest_params : Params
rest_params = record { energy = pos 0; pitch = pos 0; k = replicate stages (pos 0) }

-- the sound at rest: currents, targets, filter memory and pulse place zero; noise register 8191; it does not hold (02, §3)
abbrev pub rest_sound : Sound
rest_sound = record { current = rest_params; target = rest_params; memory = replicate stages (pos 0); noise = noise_max; pulse = 0; hold = false }

-- whether energy, pitch and each K are zero
abbrev pub zero_params : Params → Bool
zero_params v = params_inside (pos 0) (pos 0) (pos 0) v

-- whether the sound is at rest: true exactly when it equals `rest_sound` (`RestExactly` in Laws)
unfoldable pub at_rest : Sound → Bool
at_rest s =
    zero_params s.current && zero_params s.target && ten_inside (pos 0) (pos 0) s.memory && eqb s.noise noise_max
    && eqb s.pulse 0 && not s.hold
