-- The targets that a frame sets (01, "Sound"), and whether it holds the currents (02, §3). P is the width of the pitch field, 6
-- here.
use Rattle.std.specs.Prelude.{Bool, not, ◌&&◌, ◌||◌, List, [], ◌∷◌, ℕ, eqb, pos, nat_abs}
use Rattle.rom.specs.declared.frames.Frame.{Frame}
use Rattle.rom.specs.declared.frames.Frame.TheVariants.{Silence, Stop, Repeat, Unvoiced, Voiced}
use Rattle.voice.specs.Layout.{energy_at, pitch_at, k_at}
use Rattle.sound.specs.State.{with_target, with_hold}
use Rattle.sound.specs.declared.params.Params.{Params}
use Rattle.sound.specs.declared.state.Sound.{Sound}

-- Voiced sets all; unvoiced sets pitch 0, K1 to K4, and zeroes K5 to K10; repeat sets energy and pitch; silence and stop
-- set energy 0 and keep the rest. The energy of an unvoiced frame is set from its index too.
abbrev pub targets_of : ℕ → List ℕ → Frame → Params → Params
targets_of P file Silence old = record { energy = pos 0; pitch = old.pitch; k = old.k }
targets_of P file Stop old = record { energy = pos 0; pitch = old.pitch; k = old.k }
targets_of P file (Repeat e p) old = record { energy = energy_at P file e; pitch = pitch_at P file p; k = old.k }
targets_of P file (Unvoiced e k1 k2 k3 k4) old =
    record {
      energy = energy_at P file e;
      pitch = pos 0;
      k =
          k_at P file 0 k1 ∷ k_at P file 1 k2 ∷ k_at P file 2 k3 ∷ k_at P file 3 k4
          ∷ pos 0 ∷ pos 0 ∷ pos 0 ∷ pos 0 ∷ pos 0 ∷ pos 0 ∷ [];
    }
targets_of P file (Voiced e p k1 k2 k3 k4 k5 k6 k7 k8 k9 k10) old =
    record {
      energy = energy_at P file e;
      pitch = pitch_at P file p;
      k =
          k_at P file 0 k1 ∷ k_at P file 1 k2 ∷ k_at P file 2 k3 ∷ k_at P file 3 k4 ∷ k_at P file 4 k5 ∷ k_at P file 5 k6
          ∷ k_at P file 6 k7 ∷ k_at P file 7 k8 ∷ k_at P file 8 k9 ∷ k_at P file 9 k10 ∷ [];
    }

-- voiced means target pitch not 0
abbrev pub is_voiced : Params → Bool
is_voiced target = not (eqb (nat_abs target.pitch) 0)

-- energy target 0
abbrev pub is_mute : Params → Bool
is_mute target = eqb (nat_abs target.energy) 0

-- voiced to unvoiced, or back
abbrev pub changes_voicing : Params → Params → Bool
changes_voicing old new = (is_voiced old && not (is_voiced new)) || (not (is_voiced old) && is_voiced new)

-- the old energy target was 0 and the new one is not
abbrev pub starts_energy : Params → Params → Bool
starts_energy old new = is_mute old && not (is_mute new)

-- a frame holds by its targets and those before it (02, §3)
abbrev pub holds : Params → Params → Bool
holds old new = changes_voicing old new || starts_energy old new

-- the sound with the targets of a frame, holding its currents or not for that frame
abbrev pub with_targets : ℕ → List ℕ → Frame → Sound → Sound
with_targets P file f s = let new = targets_of P file f s.target in with_hold (holds s.target new) (with_target new s)
