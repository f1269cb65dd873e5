-- Bytes taken, bits given and bits thrown away, counted from the entries of a history alone (02, §10).
use Rattle.std.specs.Prelude.{cond, ◌&&◌, List, [], ◌∷◌, ℕ, ◌+◌, eqb, length}
use Rattle.base.specs.Refusals.{TAKEN}
use Rattle.account.specs.Types.{Stop, Details, Report, NoReport, FrameReport, StopReport, RanOut}
use Rattle.account.specs.Entries.{Entry, wrote, stepped, looked, Reading, next, frame_bits}

-- a byte is taken into the FIFO where it is taken and the external modes are on
abbrev pub taken_by : Reading → Entry → ℕ
taken_by t (wrote b n) = cond (t.external && eqb n TAKEN) 1 0
taken_by t (stepped n r d) = 0
taken_by t looked = 0

-- the bits that a step gives to the frame reader, by what it reports: a frame's, the stop's, the used-up bits of running out
abbrev pub given_in : Reading → Report → Details → ℕ
given_in t NoReport d = 0
given_in t (FrameReport f) d = length (frame_bits t d f)
given_in t StopReport d = length (frame_bits t d Stop)
given_in t RanOut d = d.used_up

-- they are FIFO bits where the external modes are on
abbrev pub given_by : Reading → Entry → ℕ
given_by t (wrote b n) = 0
given_by t (stepped n r d) = cond t.external (given_in t r d) 0
given_by t looked = 0

-- the bits that a step reports as thrown away
abbrev pub thrown_by : Entry → ℕ
thrown_by (wrote b n) = 0
thrown_by (stepped n r d) = d.thrown
thrown_by looked = 0

-- and over a history; t is what was told before it
abbrev pub bytes_taken : Reading → List Entry → ℕ
bytes_taken t [] = 0
bytes_taken t (e ∷ es) = taken_by t e + bytes_taken (next t e) es

abbrev pub bits_given : Reading → List Entry → ℕ
bits_given t [] = 0
bits_given t (e ∷ es) = given_by t e + bits_given (next t e) es

abbrev pub bits_thrown : List Entry → ℕ
bits_thrown [] = 0
bits_thrown (e ∷ es) = thrown_by e + bits_thrown es
