-- What holds of a voice file without a fault. P is the width of the pitch field.
use Rattle.std.specs.Prelude.{◌≡◌, false, not, List, ℕ, ◌+◌, ◌<◌, eqb, length, get_or}
use Rattle.base.specs.Range.{Between}
use Rattle.voice.specs.Layout.{k_counts, entries, pulse_start, energy_at, pitch_at, k_at, pulse_count, pulse_at}
use Rattle.voice.specs.Check.{size_fault, length_fault, pulse_fault}
use Rattle.voice.specs.declared.layout.Table.TheVariants.{Energy, Pitch}

-- each look-up is in its range (01, "Voice file"; a pulse is a signed byte)
pub record InRange (P : ℕ) (file : List ℕ) : Type 0 where
  pub energy : (i : ℕ) → i < entries P Energy → Between 0 1023 (energy_at P file i)
  pub pitch : (i : ℕ) → i < entries P Pitch → Between 0 1023 (pitch_at P file i)
  pub k : (n i : ℕ) → i < get_or k_counts n 0 → Between 512 511 (k_at P file n i)
  pub pulse : (place : ℕ) → Between 128 127 (pulse_at P file place)

-- without faults 5 and 6, fault 9 is that the pulses do not end with the file
abbrev pub PulsesEndFile : ℕ → List ℕ → Type 0
PulsesEndFile P file =
    size_fault P file ≡ false → length_fault file ≡ false
    → pulse_fault P file ≡ not (eqb (pulse_start P + pulse_count P file) (length file))
