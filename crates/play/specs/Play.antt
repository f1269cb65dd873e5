-- What a sample step makes of the sound (01, "Sound"), by what the control asks of it. P is the width of the pitch field.
use Rattle.std.specs.Prelude.{List, ℕ, pos}
use Rattle.sound.specs.State.{rest_sound}
use Rattle.sound.specs.Interpolation.{interpolated}
use Rattle.sound.specs.Targets.{with_targets}
use Rattle.sound.specs.Sample.{sampled}
use Rattle.sound.specs.declared.state.Sound.{Sound}
use Rattle.sound.specs.declared.sample.Sampled.{Sampled}
use Rattle.reports.specs.declared.Action.{Action}
use Rattle.reports.specs.declared.Action.TheVariants.{Silent, Rest, Begin, Interpolate, Continue}

-- silence: the sound, and sample 0
abbrev pub silent : Sound → Sampled
silent s = record { sound = s; value = pos 0 }

-- the sound after each action and the sample: take a frame, then interpolate, then compute
abbrev pub sounded : ℕ → List ℕ → Action → Sound → Sampled
sounded P voice Silent s = silent s
sounded P voice Rest s = silent rest_sound
sounded P voice (Begin f i) s = sampled P voice (interpolated i (with_targets P voice f s))
sounded P voice (Interpolate i) s = sampled P voice (interpolated i s)
sounded P voice Continue s = sampled P voice s
