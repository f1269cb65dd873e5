-- Frames, bits and phrases as the numbers that a C caller gets.
use Rattle.std.specs.Prelude.{Option, List, [], ◌∷◌, ◌++◌, ℕ, ◌+◌, ◌/◌}
use Rattle.base.specs.Refusals.{unless_fault}
use Rattle.rom.specs.Frames.{numbers_of}
use Rattle.base.specs.declared.refusal.Shortfall.{Shortfall}
use Rattle.rom.specs.Phrases.{Walked}
use Rattle.rom.specs.declared.frames.Frame.{Frame}
use Rattle.reports.specs.declared.Details.{Details}

-- a frame: kind, energy, pitch, K1 to K10, and its rate
abbrev pub frame_bytes : Option Frame → ℕ → List ℕ
frame_bytes f rate = numbers_of f ++ (rate ∷ [])

-- a step's bits: where the cut frame begins, those used up, those missing, those thrown away
abbrev pub step_bits : Details → List ℕ
step_bits d = d.begun ∷ d.used_up ∷ d.missing ∷ d.thrown ∷ []

-- a frame's bits, and with 10 where it begins and those missing
abbrev pub frame_bits : ℕ → Shortfall → List ℕ
frame_bits bits h = bits ∷ h.begun ∷ h.missing ∷ []

-- the phrase's part: the byte at which it begins
abbrev pub part_offset : ℕ → Walked → ℕ
part_offset a w = unless_fault w.refusal (λ r. 0) a

-- and its bytes
abbrev pub part_length : Walked → ℕ
part_length w = unless_fault w.refusal (λ r. 0) ((w.bits + 7) / 8)

-- a walk: bits, frames, intervals, samples, where the cut frame begins, bits missing, and the phrase's part
abbrev pub walk_numbers : ℕ → Walked → List ℕ
walk_numbers a w =
    w.bits
    ∷ w.frames.0
    ∷ w.intervals.0
    ∷ w.samples.0
    ∷ w.short.begun
    ∷ w.short.missing
    ∷ part_offset a w
    ∷ part_length w
    ∷ []
