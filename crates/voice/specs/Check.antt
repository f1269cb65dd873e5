-- The check of a voice file (01, "Refusal numbers", 5 to 9, and "Voice file"). P is the width of the pitch field and v the
-- version: 6 and 1 here.
use Rattle.std.specs.Prelude.{Bool, true, cond, not, ◌&&◌, ◌||◌, List, [], ◌∷◌, ℕ, zero, suc, ◌+◌, eqb, leb, ltb, ℤ, pos, neg_ℤ, length}
use Rattle.base.specs.Range.{inside}
use Rattle.base.specs.Refusals.{VOICE_SIZE, VOICE_LENGTH, VOICE_VERSION, VOICE_VALUE, VOICE_PULSE, first_fault}
use Rattle.voice.specs.Layout.{length_bytes, signed_word, entries, length_with, length_field, version_byte, entry_at, pulse_start, pulse_count}
use Rattle.voice.specs.declared.layout.Table.{Table}
use Rattle.voice.specs.declared.layout.Table.TheVariants.{Energy, Pitch, K}

-- the version of the TMS5220 and TMS5200
abbrev pub version : ℕ
version = 1

-- the most pulses
abbrev pub pulse_limit : ℕ
pulse_limit = 64

-- the most that an energy or a pitch can be
abbrev pub value_max : ℕ
value_max = 1023

-- the least and the most that a K value can be
abbrev pub k_min : ℤ
k_min = neg_ℤ (pos 512)

abbrev pub k_max : ℤ
k_max = pos 511

-- 5: file under 499 or over 562 bytes, the sizes with 1 pulse and with 64
abbrev pub size_fault : ℕ → List ℕ → Bool
size_fault P file = ltb (length file) (pulse_start P + 1) || ltb (pulse_start P + pulse_limit) (length file)

-- 6: length field is not size minus 2
abbrev pub length_fault : List ℕ → Bool
length_fault file = not (eqb (length_field file + length_bytes) (length file))

-- 7: version byte is not 1
abbrev pub version_fault : ℕ → List ℕ → Bool
version_fault v file = not (eqb (version_byte file) v)

-- entry i of a table of unsigned words is in range: least..1023, but the first 0
abbrev pub unsigned_valid : ℕ → ℕ → ℕ → Bool
unsigned_valid least i w = cond (eqb i 0) (eqb w 0) (leb least w && leb w value_max)

-- a K value is in range: in two's complement, -512..511
abbrev pub k_valid : ℕ → Bool
k_valid w = inside k_min k_max (signed_word w)

-- entry i of a table, the word w, is in range: energy 0..1023, the first 0; pitch 1..1023, but the first 0; K -512..511
abbrev pub entry_valid : Table → ℕ → ℕ → Bool
entry_valid Energy i w = unsigned_valid 0 i w
entry_valid Pitch i w = unsigned_valid 1 i w
entry_valid K i w = k_valid w

-- the first n entries of a table are in range
unfoldable pub entries_valid : ℕ → List ℕ → Table → ℕ → Bool
entries_valid P file t zero = true
entries_valid P file t (suc n) = entries_valid P file t n && entry_valid t n (entry_at P file t n)

-- every entry of a table is in range
abbrev pub table_valid : ℕ → List ℕ → Table → Bool
table_valid P file t = entries_valid P file t (entries P t)

-- 8: a table value out of range
abbrev pub value_fault : ℕ → List ℕ → Bool
value_fault P file = not (table_valid P file Energy && table_valid P file Pitch && table_valid P file K)

-- 9: pulse count 0, over 64, or length field not 496 + count
abbrev pub pulse_fault : ℕ → List ℕ → Bool
pulse_fault P file =
    let count = pulse_count P file in
    eqb count 0 || ltb pulse_limit count || not (eqb (length_field file) (length_with P count))

-- its faults in 01's order of checks, each with its number
abbrev pub voice_faults : ℕ → ℕ → List ℕ → List (Bool × ℕ)
voice_faults P v file =
    (size_fault P file, VOICE_SIZE) ∷ (length_fault file, VOICE_LENGTH) ∷ (version_fault v file, VOICE_VERSION)
    ∷ (value_fault P file, VOICE_VALUE) ∷ (pulse_fault P file, VOICE_PULSE) ∷ []

-- the refusal number of a voice file: the first fault that applies
unfoldable pub voice_fault : ℕ → ℕ → List ℕ → ℕ
voice_fault P v file = first_fault (voice_faults P v file)
