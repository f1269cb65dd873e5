-- 01's numbers come out at a pitch width of 6: where each table starts, where each K begins, the sizes, and the 496 of fault 9.
-- Assumes nothing.
use mathlib.Core.Path.{◌≡◌, refl}
use mathlib.Core.List.{[], ◌∷◌}
use Prim.Native.Nat.{◌+◌}
use Rattle.rom.specs.Frames.{pitch_width}
use Rattle.voice.specs.Layout.{k_counts, entries, table_start, count_at, pulse_start, length_with}
use Rattle.voice.specs.Check.{pulse_limit}
use Rattle.voice.specs.declared.layout.Table.TheVariants.{Energy, Pitch, K}
use Rattle.voice.proofs.Places.{begins}

pub starts : (table_start pitch_width Energy ≡ 3) × (table_start pitch_width Pitch ≡ 33) × (table_start pitch_width K ≡ 161)
    × (count_at pitch_width ≡ 497) × (pulse_start pitch_width ≡ 498)
starts = (refl, refl, refl, refl, refl)

pub k_starts : begins 0 k_counts ≡ 0 ∷ 32 ∷ 64 ∷ 80 ∷ 96 ∷ 112 ∷ 128 ∷ 144 ∷ 152 ∷ 160 ∷ []
k_starts = refl

pub sizes : (entries pitch_width K ≡ 168) × (pulse_start pitch_width + 1 ≡ 499) × (pulse_start pitch_width + pulse_limit ≡ 562) × (length_with pitch_width 0 ≡ 496)
sizes = (refl, refl, refl, refl)

-- and those of a width of 5, which are of 32 pitches
pub sizes_5 : (entries 5 Pitch ≡ 32) × (pulse_start 5 + 1 ≡ 435) × (pulse_start 5 + pulse_limit ≡ 498) × (length_with 5 0 ≡ 432)
sizes_5 = (refl, refl, refl, refl)
