-- The targets of a frame of the table, from a valid voice file, are in range.
-- Assumes nothing.
use mathlib.Core.List.{List, [], ◌∷◌}
use mathlib.Core.Path.{◌≡◌, refl}
use Prim.Native.Nat.{ℕ, zero, suc}
use native.Mathlib.Omega.{arith}
use lib.IntN.{ℤ, pos}
use lib.ListN.{length, get_or}
use Rattle.base.specs.Range.{Between}
use Rattle.rom.specs.Frames.{Proper}
use Rattle.rom.specs.declared.frames.Frame.{Frame}
use Rattle.rom.specs.declared.frames.Frame.TheVariants.{Silence, Stop, Repeat, Unvoiced, Voiced}
use Rattle.voice.specs.Valid.{InRange}
use Rattle.filter.specs.Ranges.{TenBetween}
use Rattle.sound.specs.Targets.{targets_of}
use Rattle.sound.specs.declared.params.Params.{Params}
use Rattle.sound.proofs.Validity.{ParamsBetween}

-- each number of a list is in -n..p
abbrev Each : ℕ → ℕ → List ℤ → Type 0
Each n p [] = Unit {0}
Each n p (z ∷ zs) = Between n p z × Each n p zs

ten : {n p : ℕ} (zs : List ℤ) → length zs ≡ 10 → Each n p zs → TenBetween n p zs
ten {n} {p} zs e h = record { size = e; each = at zs h }
  where
    at : (zs : List ℤ) → Each n p zs → (i : ℕ) → Between n p (get_or zs i (pos 0))
    at [] h i = omega arith
    at (z ∷ zs) h zero = h.0
    at (z ∷ zs) h (suc i) = at zs h.1 i

nought : {n p : ℕ} → Between n p (pos 0)
nought = omega arith

-- `fit` is, field by field, that an index fits its width; energy 15 is excluded by the kind
pub targets_ranges : {P : ℕ} {file : List ℕ} → InRange P file → (f : Frame) → Proper P f → {old : Params} → ParamsBetween 1023 512 511 old
    → ParamsBetween 1023 512 511 (targets_of P file f old)
targets_ranges v Silence proper h = record { energy = nought; pitch = h.pitch; k = h.k }
targets_ranges v Stop proper h = record { energy = nought; pitch = h.pitch; k = h.k }
targets_ranges v (Repeat e p) (fit, kind) h = record { energy = v.energy e kind.1; pitch = v.pitch p fit.1.1.0; k = h.k }
targets_ranges v (Unvoiced e k1 k2 k3 k4) (fit, kind) h =
    let silent : Between 0 1023 (pos 0) = nought in
    record { energy = search v.energy; pitch = silent; k = ten _ refl (search (v.k, nought) depth 12) }
targets_ranges v (Voiced e p k1 k2 k3 k4 k5 k6 k7 k8 k9 k10) (fit, kind) h =
    record { energy = v.energy e kind.1; pitch = v.pitch p fit.1.1.0; k = ten _ refl (search v.k depth 12) }
