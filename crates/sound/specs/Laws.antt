-- What is true of every sound: a valid one stays valid; it is at rest exactly when it equals the sound at rest; what it means
-- that a frame holds.
use Rattle.std.specs.Prelude.{◌≡◌, true, false, not, ◌||◌, List, ℕ, ◌<◌}
use Rattle.base.specs.Units.{intervals}
use Rattle.base.specs.declared.units.Intervals.{Intervals}
use Rattle.rom.specs.Frames.{Proper}
use Rattle.rom.specs.declared.frames.Frame.{Frame}
use Rattle.rom.specs.declared.frames.Frame.TheVariants.{Silence, Stop}
use Rattle.voice.specs.Check.{voice_fault}
use Rattle.sound.specs.Interpolation.{interpolated}
use Rattle.sound.specs.Sample.{sampled, sound_after}
use Rattle.sound.specs.State.{sound_valid, rest_params, rest_sound, at_rest}
use Rattle.sound.specs.Targets.{is_voiced, is_mute, holds, with_targets}
use Rattle.sound.specs.declared.params.Params.{Params}
use Rattle.sound.specs.declared.state.Sound.{Sound}

-- the sound at rest is valid; interpolation, a sample, some samples, and the targets of a frame of the table from a valid
-- voice file keep a sound valid
pub record StaysValid : Type 0 where
  pub rest : sound_valid rest_sound ≡ true
  pub interpolation : (interval : Intervals) (s : Sound) → sound_valid s ≡ true
      → sound_valid (interpolated interval s) ≡ true
  pub sample : (P : ℕ) (file : List ℕ) (s : Sound) → sound_valid s ≡ true
      → sound_valid (sampled P file s).sound ≡ true
  pub samples : (P : ℕ) (file : List ℕ) (n : ℕ) (s : Sound) → sound_valid s ≡ true
      → sound_valid (sound_after P file n s) ≡ true
  pub targets : (P version : ℕ) (file : List ℕ) (f : Frame) (s : Sound) → voice_fault P version file ≡ 0 → Proper P f
      → sound_valid s ≡ true → sound_valid (with_targets P file f s) ≡ true

-- at rest exactly when equal to the sound at rest
pub record RestExactly (s : Sound) : Type 0 where
  pub equal : at_rest s ≡ true → s ≡ rest_sound
  pub test : s ≡ rest_sound → at_rest s ≡ true

-- in a frame that holds nothing moves in intervals 0 to 6
abbrev pub HoldsStill : Type 0
HoldsStill = (interval : Intervals) (s : Sound) → s.hold ≡ true → interval.0 < 7 → interpolated interval s ≡ s

-- in interval 7 the currents are the targets, in a frame that holds and in any other
abbrev pub Reaches : Type 0
Reaches = (s : Sound) → sound_valid s ≡ true → (interpolated (intervals 7) s).current ≡ s.target

-- silence and stop never hold
pub record SilenceNeverHolds (P : ℕ) (file : List ℕ) (s : Sound) : Type 0 where
  pub silence : (with_targets P file Silence s).hold ≡ false
  pub stop : (with_targets P file Stop s).hold ≡ false

-- the first frame from rest holds unless its targets have neither pitch nor energy
abbrev pub FirstFrameHolds : Type 0
FirstFrameHolds = (new : Params) → holds rest_params new ≡ (is_voiced new || not (is_mute new))
