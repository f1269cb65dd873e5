-- One sample, and samples one after another (01, "Sound"). P is the width of the pitch field, 6 here.
use Rattle.std.specs.Prelude.{Bool, cond, List, ℕ, ◌%◌, eqb, ℤ, pos, neg_ℤ, ◌*ℤ◌}
use Rattle.std.specs.Int.Signed.{shr_z}
use Rattle.base.specs.Range.{clamped}
use Rattle.base.specs.Steps.{state_after, outputs}
use Rattle.voice.specs.Layout.{pulse_at}
use Rattle.filter.specs.Filter.{forward, new_memory}
use Rattle.sound.specs.Noise.{next_noise}
use Rattle.sound.specs.Pulse.{next_pulse}
use Rattle.sound.specs.State.{with_memory, with_noise, with_pulse}
use Rattle.sound.specs.Targets.{is_voiced}
use Rattle.sound.specs.declared.state.Sound.{Sound}
use Rattle.sound.specs.declared.sample.Sampled.{Sampled}

-- the excitation of noise, up or down
abbrev pub noise_level : ℕ
noise_level = 64

-- excitation: voiced, the pulse table at the pulse place, 0 past its end; unvoiced, -64 if the noise register is odd,
-- else 64
abbrev pub excitation_of : ℕ → List ℕ → Bool → ℕ → ℕ → ℤ
excitation_of P file voiced place noise =
    cond voiced (pulse_at P file place) (cond (eqb (noise % 2) 1) (neg_ℤ (pos noise_level)) (pos noise_level))

-- an excitation counts in 64ths
abbrev pub excitation_unit : ℕ
excitation_unit = 64

-- input = floor(energy × excitation / 64)
abbrev pub input_of : ℤ → ℤ → ℤ
input_of energy excitation = shr_z (energy *ℤ excitation) excitation_unit

-- the range of a sample: 10 signed bits
abbrev pub sample_min : ℤ
sample_min = neg_ℤ (pos 512)

abbrev pub sample_max : ℤ
sample_max = pos 511

-- the sample is forward 1 held to -512..511
abbrev pub value_of : ℤ → ℤ
value_of f = clamped sample_min sample_max f

-- the sound with the parts that a sample renews: filter memory, noise register and pulse place
abbrev pub renewed : List ℤ → ℕ → ℕ → Sound → Sound
renewed m n p s = with_memory m (with_noise n (with_pulse p s))

-- a sample: its value, and the sound after it; excitation is from the old pulse place and noise register
unfoldable pub sampled : ℕ → List ℕ → Sound → Sampled
sampled P file s =
    let input = input_of s.current.energy (excitation_of P file (is_voiced s.target) s.pulse s.noise) in
    record {
      sound = renewed (new_memory s.current.k s.memory input) (next_noise s.noise) (next_pulse s.pulse s.current.pitch) s;
      value = value_of (forward s.current.k s.memory input);
    }

-- a sample as a step: the sound after it, and its value
abbrev pub sound_step : ℕ → List ℕ → Sound → Sound × ℤ
sound_step P file s = ((sampled P file s).sound, (sampled P file s).value)

-- the sound after n samples
abbrev pub sound_after : ℕ → List ℕ → ℕ → Sound → Sound
sound_after P file n s = state_after (sound_step P file) n s

-- the values of n samples
abbrev pub values_of : ℕ → List ℕ → ℕ → Sound → List ℤ
values_of P file n s = outputs (sound_step P file) n s
