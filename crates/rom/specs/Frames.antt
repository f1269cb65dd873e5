-- Frames and their bits (01, "Frames"). P is the width of the pitch field.
use Rattle.std.specs.Prelude.{Option, Some, None, Bool, true, false, List, [], ◌∷◌, ◌++◌, ℕ, ◌+◌, ◌^◌, ◌<◌}
use Rattle.rom.specs.Bits.{digits}
use Rattle.rom.specs.declared.frames.Frame.{Frame}
use Rattle.rom.specs.declared.frames.Frame.TheVariants.{Silence, Stop, Repeat, Unvoiced, Voiced}

-- the pitch width of the TMS5220 and TMS5200
abbrev pub pitch_width : ℕ
pitch_width = 6

-- The table of kinds: the width and the value of each field of a frame, in order: energy, repeat, pitch, K1 to K10.
abbrev pub fields_of : ℕ → Frame → List (ℕ × ℕ)
fields_of P Silence = (4, 0) ∷ []
fields_of P Stop = (4, 15) ∷ []
fields_of P (Repeat e p) = (4, e) ∷ (1, 1) ∷ (P, p) ∷ []
fields_of P (Unvoiced e k1 k2 k3 k4) =
    (4, e) ∷ (1, 0) ∷ (P, 0) ∷ (5, k1) ∷ (5, k2) ∷ (4, k3) ∷ (4, k4) ∷ []
fields_of P (Voiced e p k1 k2 k3 k4 k5 k6 k7 k8 k9 k10) =
    (4, e) ∷ (1, 0) ∷ (P, p) ∷ (5, k1) ∷ (5, k2) ∷ (4, k3) ∷ (4, k4) ∷ (4, k5) ∷ (4, k6) ∷ (4, k7) ∷ (3, k8) ∷ (3, k9) ∷ (3, k10) ∷ []

-- the bits of fields one after another
abbrev pub encoded : List (ℕ × ℕ) → List ℕ
encoded [] = []
encoded (f ∷ fs) = digits f.0 f.1 ++ encoded fs

-- the sum of their widths
abbrev pub total_width : List (ℕ × ℕ) → ℕ
total_width [] = 0
total_width (f ∷ fs) = f.0 + total_width fs

-- each value fits its width
abbrev pub Fit : List (ℕ × ℕ) → Type 0
Fit [] = Unit {0}
Fit (f ∷ fs) = (f.1 < 2 ^ f.0) × Fit fs

-- the energy and the pitch are the kind's: energy 0 is a silence and 15 a stop, and pitch 0 is unvoiced
abbrev pub OfKind : Frame → Type 0
OfKind Silence = Unit {0}
OfKind Stop = Unit {0}
OfKind (Repeat e p) = (0 < e) × (e < 15)
OfKind (Unvoiced e k1 k2 k3 k4) = (0 < e) × (e < 15)
OfKind (Voiced e p k1 k2 k3 k4 k5 k6 k7 k8 k9 k10) = (0 < e) × (e < 15) × (0 < p)

-- a frame of the table: its indexes fit their fields and its kind
abbrev pub Proper : ℕ → Frame → Type 0
Proper P f = Fit (fields_of P f) × OfKind f

-- the bits that the table of kinds gives a frame
abbrev pub bits_of : ℕ → Frame → List ℕ
bits_of P f = encoded (fields_of P f)

-- their number
abbrev pub bit_count : ℕ → Frame → ℕ
bit_count P f = total_width (fields_of P f)

-- the stop
abbrev pub is_stop : Frame → Bool
is_stop Silence = false
is_stop Stop = true
is_stop (Repeat e p) = false
is_stop (Unvoiced e k1 k2 k3 k4) = false
is_stop (Voiced e p k1 k2 k3 k4 k5 k6 k7 k8 k9 k10) = false

-- The numbers of each case of a frame or none: the kind (0 none, 1 silence, 2 stop, 3 repeat, 4 unvoiced, 5 voiced),
-- the energy and pitch indexes and those of K1 to K10; 0 for an index that the kind does not carry.
abbrev pub numbers_of : Option Frame → List ℕ
numbers_of None = 0 ∷ 0 ∷ 0 ∷ 0 ∷ 0 ∷ 0 ∷ 0 ∷ 0 ∷ 0 ∷ 0 ∷ 0 ∷ 0 ∷ 0 ∷ []
numbers_of (Some Silence) = 1 ∷ 0 ∷ 0 ∷ 0 ∷ 0 ∷ 0 ∷ 0 ∷ 0 ∷ 0 ∷ 0 ∷ 0 ∷ 0 ∷ 0 ∷ []
numbers_of (Some Stop) = 2 ∷ 15 ∷ 0 ∷ 0 ∷ 0 ∷ 0 ∷ 0 ∷ 0 ∷ 0 ∷ 0 ∷ 0 ∷ 0 ∷ 0 ∷ []
numbers_of (Some (Repeat e p)) = 3 ∷ e ∷ p ∷ 0 ∷ 0 ∷ 0 ∷ 0 ∷ 0 ∷ 0 ∷ 0 ∷ 0 ∷ 0 ∷ 0 ∷ []
numbers_of (Some (Unvoiced e k1 k2 k3 k4)) = 4 ∷ e ∷ 0 ∷ k1 ∷ k2 ∷ k3 ∷ k4 ∷ 0 ∷ 0 ∷ 0 ∷ 0 ∷ 0 ∷ 0 ∷ []
numbers_of (Some (Voiced e p k1 k2 k3 k4 k5 k6 k7 k8 k9 k10)) =
    5 ∷ e ∷ p ∷ k1 ∷ k2 ∷ k3 ∷ k4 ∷ k5 ∷ k6 ∷ k7 ∷ k8 ∷ k9 ∷ k10 ∷ []
