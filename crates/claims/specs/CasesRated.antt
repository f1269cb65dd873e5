-- Numbers of the TMS5220C (02, §5), as a table like that of the cases marked P.
use Rattle.std.specs.Prelude.{◌≡◌, List, [], ◌∷◌, map, ℕ, ℤ}
use Rattle.base.specs.Refusals.{TAKEN, BEYOND, IMAGE, STATE, NO_PHRASE}
use Rattle.rom.specs.Frames.{pitch_width}
use Rattle.rates.specs.Walks.{rated_walk_of}
use Rattle.control.specs.Device.{rate_of}
use Rattle.control.specs.declared.device.Device.{Device}
use Rattle.control.specs.declared.device.Device.TheVariants.{Tms5220, Tms5220C}
use Rattle.fifo.specs.declared.BitOrder.{BitOrder}
use Rattle.fifo.specs.declared.BitOrder.TheVariants.{LeastFirst, MostFirst}
use Rattle.chip.specs.State.{power_up, power_up_with, power_up_5220c, power_up_5220c_with}
use Rattle.chip.specs.declared.state.Chip.{Chip}
use Rattle.claims.specs.Writes.{after_bytes}
use Rattle.claims.specs.Cases.{Case, numbers}

-- 0 for a TMS5220, 1 for a TMS5220C
abbrev kind : Device → ℕ
kind Tms5220 = 0
kind (Tms5220C r) = 1

-- 0 for least significant first, 1 for most significant first
abbrev order_number : BitOrder → ℕ
order_number LeastFirst = 0
order_number MostFirst = 1

-- the device of a chip, its v and rr, and the order of its FIFO's bits (02, §9)
abbrev setting : Chip → List ℤ
setting c = let d = c.control.device in numbers (kind d ∷ (rate_of d).v ∷ (rate_of d).rr ∷ order_number c.control.fifo.order ∷ [])

-- refusal number, bits, frames, intervals and samples of a walk told v and rr
abbrev rated_walked : ℕ → ℕ → List ℕ → ℕ → List ℤ
rated_walked v rr image a =
    let w = rated_walk_of pitch_width (record { v = v; rr = rr }) image a in
    numbers (w.refusal ∷ w.bits ∷ w.frames.0 ∷ w.intervals.0 ∷ w.samples.0 ∷ [])

-- The table: power-up of both devices, plain and by each order, Load Frame Rate and Reset on them; with v = 1 a voiced, an unvoiced,
-- a repeat and a silence frame at rate 01, each before a stop at rate 10, and a stop alone at each rate; v = 0 at rate 11; an image cut
-- inside rate bits; and the refusals in their order.
unfoldable pub rated_cases : List Case
rated_cases =
    record { given = setting power_up; paper = numbers (0 ∷ 0 ∷ 0 ∷ 0 ∷ []) } ∷
    record { given = setting (power_up_with LeastFirst); paper = numbers (0 ∷ 0 ∷ 0 ∷ 0 ∷ []) } ∷
    record { given = setting (power_up_with MostFirst); paper = numbers (0 ∷ 0 ∷ 0 ∷ 1 ∷ []) } ∷
    record { given = setting power_up_5220c; paper = numbers (1 ∷ 0 ∷ 0 ∷ 0 ∷ []) } ∷
    record { given = setting (power_up_5220c_with LeastFirst); paper = numbers (1 ∷ 0 ∷ 0 ∷ 0 ∷ []) } ∷
    record { given = setting (power_up_5220c_with MostFirst); paper = numbers (1 ∷ 0 ∷ 0 ∷ 1 ∷ []) } ∷
    record { given = setting (after_bytes (0xFF ∷ []) power_up_5220c (0x07 ∷ [])); paper = numbers (1 ∷ 1 ∷ 3 ∷ 0 ∷ []) } ∷
    record { given = setting (after_bytes (0xFF ∷ []) power_up_5220c (0xAE ∷ [])); paper = numbers (1 ∷ 1 ∷ 2 ∷ 0 ∷ []) } ∷
    record { given = setting (after_bytes (0xFF ∷ []) power_up_5220c (0x07 ∷ 0x70 ∷ [])); paper = numbers (1 ∷ 0 ∷ 0 ∷ 0 ∷ []) } ∷
    record { given = setting (after_bytes (0xFF ∷ []) (power_up_5220c_with MostFirst) (0x07 ∷ 0x70 ∷ [])); paper = numbers (1 ∷ 0 ∷ 0 ∷ 1 ∷ []) } ∷
    record { given = setting (after_bytes (0xFF ∷ []) (power_up_with MostFirst) (0x70 ∷ [])); paper = numbers (0 ∷ 0 ∷ 0 ∷ 1 ∷ []) } ∷
    record { given = setting (after_bytes (0xFF ∷ []) power_up (0x07 ∷ [])); paper = numbers (0 ∷ 0 ∷ 0 ∷ 0 ∷ []) } ∷
    record { given = setting (after_bytes (0xFF ∷ []) power_up (0x70 ∷ [])); paper = numbers (0 ∷ 0 ∷ 0 ∷ 0 ∷ []) } ∷
    record { given = rated_walked 1 0 (0x44 ∷ 0x08 ∷ 0x00 ∷ 0x00 ∷ 0x00 ∷ 0x00 ∷ 0x0B ∷ 0xC0 ∷ []) 0; paper = numbers (TAKEN ∷ 58 ∷ 2 ∷ 10 ∷ 250 ∷ []) } ∷
    record { given = rated_walked 1 0 (0x44 ∷ 0x00 ∷ 0x00 ∷ 0x01 ∷ 0x78 ∷ []) 0; paper = numbers (TAKEN ∷ 37 ∷ 2 ∷ 10 ∷ 250 ∷ []) } ∷
    record { given = rated_walked 1 0 (0x46 ∷ 0x0D ∷ 0xE0 ∷ []) 0; paper = numbers (TAKEN ∷ 19 ∷ 2 ∷ 10 ∷ 250 ∷ []) } ∷
    record { given = rated_walked 1 0 (0x42 ∷ 0xF0 ∷ []) 0; paper = numbers (TAKEN ∷ 12 ∷ 2 ∷ 10 ∷ 250 ∷ []) } ∷
    record { given = rated_walked 1 0 (0x3C ∷ []) 0; paper = numbers (TAKEN ∷ 6 ∷ 1 ∷ 8 ∷ 200 ∷ []) } ∷
    record { given = rated_walked 1 0 (0x7C ∷ []) 0; paper = numbers (TAKEN ∷ 6 ∷ 1 ∷ 6 ∷ 150 ∷ []) } ∷
    record { given = rated_walked 1 0 (0xBC ∷ []) 0; paper = numbers (TAKEN ∷ 6 ∷ 1 ∷ 4 ∷ 100 ∷ []) } ∷
    record { given = rated_walked 1 0 (0xFC ∷ []) 0; paper = numbers (TAKEN ∷ 6 ∷ 1 ∷ 2 ∷ 50 ∷ []) } ∷
    record { given = rated_walked 0 3 (0x0F ∷ []) 0; paper = numbers (TAKEN ∷ 8 ∷ 2 ∷ 4 ∷ 100 ∷ []) } ∷
    record { given = rated_walked 1 0 (0x41 ∷ []) 0; paper = numbers (NO_PHRASE ∷ 0 ∷ 0 ∷ 0 ∷ 0 ∷ []) } ∷
    record { given = rated_walked 2 0 (0xFF ∷ []) 9; paper = numbers (STATE ∷ 0 ∷ 0 ∷ 0 ∷ 0 ∷ []) } ∷
    record { given = rated_walked 0 4 (0xFF ∷ []) 0; paper = numbers (STATE ∷ 0 ∷ 0 ∷ 0 ∷ 0 ∷ []) } ∷
    record { given = rated_walked 2 0 ([]) 0; paper = numbers (IMAGE ∷ 0 ∷ 0 ∷ 0 ∷ 0 ∷ []) } ∷
    record { given = rated_walked 1 3 (0xFF ∷ []) 1; paper = numbers (BEYOND ∷ 0 ∷ 0 ∷ 0 ∷ 0 ∷ []) } ∷
    []

-- The claim: in each case the definitions give these numbers.
abbrev pub RatedCasesHold : Type 0
RatedCasesHold = map (λ (c : Case). c.given) rated_cases ≡ map (λ (c : Case). c.paper) rated_cases
