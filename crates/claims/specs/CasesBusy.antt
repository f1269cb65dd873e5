-- The time of a branch (02, §12), as a table: what the definitions give, and the numbers of the paper.
use Rattle.std.specs.Prelude.{◌≡◌, List, [], ◌∷◌, map, ℕ, zero, suc, ℤ}
use Rattle.base.specs.Refusals.{TAKEN, WAIT, BEYOND}
use Rattle.chip.specs.State.{power_up, power_up_5220c}
use Rattle.chip.specs.Write.{write_of}
use Rattle.chip.specs.Step.{step_taken}
use Rattle.chip.specs.declared.state.Chip.{Chip}
use Rattle.claims.specs.Writes.{after_bytes}
use Rattle.claims.specs.Cases.{Case, numbers}

-- two bytes, of which a branch makes the address 5, past their end
abbrev image : List ℕ
image = 0x05 ∷ 0xC0 ∷ []

-- the count of busy samples
abbrev busy : Chip → List ℤ
busy c = numbers (c.control.port.busy.0 ∷ [])

-- a chip of the TMS5220 and one of the TMS5220C after a branch
abbrev branched : Chip
branched = after_bytes image power_up (0x30 ∷ [])

-- of the TMS5220C
abbrev branched_5220c : Chip
branched_5220c = after_bytes image power_up_5220c (0x30 ∷ [])

-- a chip that does not sound after n taken sample steps, which no voice file changes
abbrev waited : ℕ → Chip → Chip
waited zero c = c
waited (suc n) c = waited n (step_taken image [] c).chip

-- the refusal number of each of the eight codes of a byte; the last is Reset's
abbrev refused : Chip → List ℤ
refused c = numbers (map (λ (b : ℕ). (write_of image c b).refusal) (0x00 ∷ 0x10 ∷ 0x20 ∷ 0x30 ∷ 0x40 ∷ 0x50 ∷ 0x60 ∷ 0x70 ∷ []))

-- The table: the count after power-up, a taken and a refused branch; each byte while the chip is busy, on both devices; the count after
-- one step, two and three; and a Speak past the image's end, after one step and after two.
unfoldable pub busy_cases : List Case
busy_cases =
    record { given = busy power_up; paper = numbers (0 ∷ []) } ∷
    record { given = busy branched; paper = numbers (2 ∷ []) } ∷
    record { given = busy branched_5220c; paper = numbers (2 ∷ []) } ∷
    record { given = busy (after_bytes (0x05 ∷ []) power_up (0x30 ∷ [])); paper = numbers (0 ∷ []) } ∷
    record { given = refused branched; paper = numbers (WAIT ∷ WAIT ∷ WAIT ∷ WAIT ∷ WAIT ∷ WAIT ∷ WAIT ∷ WAIT ∷ []) } ∷
    record { given = refused branched_5220c; paper = numbers (WAIT ∷ WAIT ∷ WAIT ∷ WAIT ∷ WAIT ∷ WAIT ∷ WAIT ∷ WAIT ∷ []) } ∷
    record { given = busy (waited 1 branched); paper = numbers (1 ∷ []) } ∷
    record { given = busy (waited 2 branched); paper = numbers (0 ∷ []) } ∷
    record { given = busy (waited 3 branched); paper = numbers (0 ∷ []) } ∷
    record { given = numbers ((write_of image (waited 1 branched) 0x50).refusal ∷ []); paper = numbers (WAIT ∷ []) } ∷
    record { given = numbers ((write_of image (waited 2 branched) 0x50).refusal ∷ []); paper = numbers (BEYOND ∷ []) } ∷
    record { given = numbers ((write_of image (waited 2 branched) 0x70).refusal ∷ []); paper = numbers (TAKEN ∷ []) } ∷
    []

-- The claim: in each case the definitions give the numbers of the paper.
abbrev pub BusyCasesHold : Type 0
BusyCasesHold = map (λ (c : Case). c.given) busy_cases ≡ map (λ (c : Case). c.paper) busy_cases
