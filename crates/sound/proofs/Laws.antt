-- A valid sound stays valid; at rest exactly when equal to the sound at rest.
-- Assumes nothing.
use mathlib.Core.Path.{refl}
use Rattle.base.proofs.Steps.{after_keeps}
use Rattle.voice.proofs.Valid.{valid_in_range}
use Rattle.sound.specs.Laws.{StaysValid, RestExactly}
use Rattle.sound.specs.Sample.{sound_step}
use Rattle.sound.specs.State.{sound_valid, at_rest}
use Rattle.sound.specs.Targets.{with_targets}
use Rattle.sound.specs.declared.state.Sound.{Sound}
use Rattle.sound.proofs.Frames.{targets_ranges}
use Rattle.sound.proofs.Samples.{sampled_ranges, interpolated_ranges}
use Rattle.sound.proofs.Validity.{SoundRanges, with_target_lem, with_hold_lem, ranges, in_ranges, rest_is}

pub stays_valid : StaysValid
unfolding sound_valid
stays_valid =
    record {
      rest = refl;
      interpolation = λ interval s h. in_ranges (interpolated_ranges interval (ranges s h));
      sample = λ P file s h. in_ranges (sampled_ranges P file s (ranges s h));
      samples = λ P file n s h. in_ranges (after_keeps (sound_step P file) SoundRanges (sampled_ranges P file) n (ranges s h));
      targets = λ P version file f s fault proper h.
          let r = ranges s h in
          in_ranges {s = with_targets P file f s} (with_hold_lem (with_target_lem r (targets_ranges (valid_in_range P version file fault) f proper r.target)));
    }

pub rest_exactly : (s : Sound) → RestExactly s
unfolding at_rest
rest_exactly s = record { equal = rest_is s; test = λ e. rw e refl }
