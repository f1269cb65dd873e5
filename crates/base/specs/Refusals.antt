-- The refusal numbers (01, "Refusal numbers"), by name, and the order of checks.
use Rattle.std.specs.Prelude.{Bool, cond, List, [], ◌∷◌, ℕ, eqb}

-- nothing below applies
abbrev pub TAKEN : ℕ
TAKEN = 0

-- a byte is written in Speak External with 16 bytes held, or a byte other than Reset in the mode speaking from ROM
abbrev pub WAIT : ℕ
WAIT = 1

-- bits, bytes or an address at or past the end of the image
abbrev pub BEYOND : ℕ
BEYOND = 2

-- image length 0 or above 262,144
abbrev pub IMAGE : ℕ
IMAGE = 3

-- a field of the chip breaks the state ranges
abbrev pub STATE : ℕ
STATE = 4

-- voice file under 499 or over 562 bytes
abbrev pub VOICE_SIZE : ℕ
VOICE_SIZE = 5

-- its length field is not its size minus 2
abbrev pub VOICE_LENGTH : ℕ
VOICE_LENGTH = 6

-- its version byte is not 1
abbrev pub VOICE_VERSION : ℕ
VOICE_VERSION = 7

-- a value in its tables is out of range
abbrev pub VOICE_VALUE : ℕ
VOICE_VALUE = 8

-- its pulse count is 0, over 64, or its length field is not 496 + count
abbrev pub VOICE_PULSE : ℕ
VOICE_PULSE = 9

-- walk: the bits end before a stop; frame taken: the bits end inside it
abbrev pub NO_PHRASE : ℕ
NO_PHRASE = 10

-- the first fault that applies, of faults in 01's order of checks; TAKEN where none does
abbrev pub first_fault : List (Bool × ℕ) → ℕ
first_fault [] = TAKEN
first_fault (f ∷ fs) = cond f.0 f.1 (first_fault fs)

-- the answer of a call whose fault is n: `answer` where n is TAKEN, else the refused answer with the number n
abbrev pub unless_fault : {A : Type 0} → ℕ → (ℕ → A) → A → A
unless_fault n refused answer = cond (eqb n TAKEN) answer (refused n)
