-- The cases marked P (01, "Numbers to try"), as one table: what the definitions give, and the numbers of the paper.
use Rattle.std.specs.Prelude.{◌≡◌, List, [], ◌∷◌, map, ℕ, zero, suc, ◌/◌, ℤ, pos}
use Rattle.base.specs.Refusals.{TAKEN, BEYOND, NO_PHRASE}
use Rattle.base.specs.Units.{intervals}
use Rattle.rom.specs.Frames.{pitch_width}
use Rattle.rom.specs.Phrases.{walk_of}
use Rattle.sound.specs.Interpolation.{divisor, toward_by}
use Rattle.sound.specs.Noise.{next_noise}
use Rattle.chip.specs.State.{power_up}
use Rattle.claims.specs.Writes.{after_bytes}

-- a row: what the definitions give, and the numbers of the paper, as integers since a current is one
pub record Case : Type 0 where
  pub given : List ℤ
  pub paper : List ℤ

-- numbers that are not negative
abbrev pub numbers : List ℕ → List ℤ
numbers = map pos

-- refusal number, bits and frames of a walk
abbrev walked : List ℕ → ℕ → List ℤ
walked image a = let w = walk_of pitch_width image a in numbers (w.refusal ∷ w.bits ∷ w.frames.0 ∷ [])

-- the byte address of a chip fresh from power-up after written bytes
abbrev address : List ℕ → List ℕ → List ℤ
address image bytes = numbers ((after_bytes image power_up bytes).control.address.position / 8 ∷ [])

-- a current number on its way to a target, by the divisors of intervals, in a frame that does not hold (02, §3)
abbrev runs : List ℕ → ℤ → ℤ → List ℤ
runs [] current target = []
runs (i ∷ is) current target = let next = toward_by (divisor (intervals i)) current target in next ∷ runs is next target

-- the intervals of a frame
abbrev all : List ℕ
all = 0 ∷ 1 ∷ 2 ∷ 3 ∷ 4 ∷ 5 ∷ 6 ∷ 7 ∷ []

-- a noise register and what it becomes, n in all
abbrev noises : ℕ → ℕ → List ℕ
noises zero register = []
noises (suc n) register = register ∷ noises n (next_noise register)

-- the table
unfoldable pub cases : List Case
cases =
    record { given = walked (0xFF ∷ []) 0; paper = numbers (TAKEN ∷ 4 ∷ 1 ∷ []) } ∷
    record { given = walked (0x0F ∷ []) 0; paper = numbers (TAKEN ∷ 8 ∷ 2 ∷ []) } ∷
    record { given = walked (0x00 ∷ []) 0; paper = numbers (NO_PHRASE ∷ 0 ∷ 0 ∷ []) } ∷
    record { given = walked (0x1F ∷ 0xFF ∷ []) 0; paper = numbers (TAKEN ∷ 15 ∷ 2 ∷ []) } ∷
    record { given = walked (0x03 ∷ 0x83 ∷ []) 0; paper = numbers (NO_PHRASE ∷ 0 ∷ 0 ∷ []) } ∷
    record { given = walked (0xFF ∷ []) 1; paper = numbers (BEYOND ∷ 0 ∷ 0 ∷ []) } ∷
    record { given = address (0xFF ∷ []) (0x41 ∷ 0x42 ∷ 0x43 ∷ 0x40 ∷ 0x40 ∷ []); paper = numbers (801 ∷ []) } ∷
    record { given = address (0x05 ∷ 0xC0 ∷ []) (0x30 ∷ []); paper = numbers (5 ∷ []) } ∷
    record { given = runs all (pos 0) (pos 80); paper = numbers (10 ∷ 18 ∷ 25 ∷ 38 ∷ 48 ∷ 64 ∷ 72 ∷ 80 ∷ []) } ∷
    record { given = runs all (pos 5) (pos 0); paper = numbers (4 ∷ 3 ∷ 2 ∷ 1 ∷ 0 ∷ 0 ∷ 0 ∷ 0 ∷ []) } ∷
    record { given = runs all (pos 0) (pos 5); paper = numbers (0 ∷ 0 ∷ 0 ∷ 1 ∷ 2 ∷ 3 ∷ 4 ∷ 5 ∷ []) } ∷
    record { given = numbers (noises 4 8191); paper = numbers (8191 ∷ 8190 ∷ 8189 ∷ 8186 ∷ []) } ∷
    []

-- The claim: in each case the definitions give the numbers of the paper.
abbrev pub CasesHold : Type 0
CasesHold = map (λ (c : Case). c.given) cases ≡ map (λ (c : Case). c.paper) cases
