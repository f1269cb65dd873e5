-- The layout of a voice file (01, "Voice file"). A file is the list of its bytes, and P the width of the pitch field of frames:
-- the file has a pitch for each index of P bits.
use Rattle.std.specs.Prelude.{cond, List, [], ◌∷◌, ℕ, ◌+◌, ◌*◌, ◌/◌, ◌%◌, ◌^◌, ltb, ℤ, pos, ◌-ℤ◌, take}
use Rattle.base.specs.Bytes.{byte_at}
use Rattle.voice.specs.declared.layout.Table.{Table}
use Rattle.voice.specs.declared.layout.Table.TheVariants.{Energy, Pitch, K}

-- how many pitches it has: 64 at 6 bits
abbrev pub pitches : ℕ → ℕ
pitches P = 2 ^ P

-- the two bytes from byte `at` on, big-endian
abbrev pub be16 : List ℕ → ℕ → ℕ
be16 file at = 256 * byte_at file at + byte_at file (at + 1)

-- the bits of n in two's complement: the sign bit, of weight `sign`, counts as -`sign`
unfoldable pub twos_complement : ℕ → ℕ → ℤ
twos_complement sign n = pos (n % sign) -ℤ pos (n / sign % 2 * sign)

-- a byte in two's complement
abbrev pub signed_byte : ℕ → ℤ
signed_byte b = twos_complement 128 b

-- a word in two's complement
abbrev pub signed_word : ℕ → ℤ
signed_word w = twos_complement 32768 w

-- how many values each K has, K1 first: an index of 5, 5, 4, 4, 4, 4, 4, 3, 3, 3 bits
abbrev pub k_counts : List ℕ
k_counts = 32 ∷ 32 ∷ 16 ∷ 16 ∷ 16 ∷ 16 ∷ 16 ∷ 8 ∷ 8 ∷ 8 ∷ []

-- the sum of a list
abbrev pub total : List ℕ → ℕ
total [] = 0
total (n ∷ ns) = n + total ns

-- where K number n, K1 being number 0, begins among the K values: after those of the K before it; 168 past K10
abbrev pub k_begin : ℕ → ℕ
k_begin n = total (take n k_counts)

-- the bytes of the length field
abbrev pub length_bytes : ℕ
length_bytes = 2

-- how many entries a table has: 15 energies, 64 pitches at 6 bits, 168 K values
abbrev pub entries : ℕ → Table → ℕ
entries P Energy = 15
entries P Pitch = pitches P
entries P K = total k_counts

-- where a table starts: after the length field, the version byte and the tables before it, two bytes an entry
abbrev pub table_start : ℕ → Table → ℕ
table_start P Energy = length_bytes + 1
table_start P Pitch = length_bytes + 1 + 2 * entries P Energy
table_start P K = length_bytes + 1 + 2 * entries P Energy + 2 * entries P Pitch

-- where the pulse count stands: after the tables
abbrev pub count_at : ℕ → ℕ
count_at P = table_start P K + 2 * entries P K

-- where the pulses start: after their count
abbrev pub pulse_start : ℕ → ℕ
pulse_start P = count_at P + 1

-- the length field of a file with `count` pulses, which is the length of what follows it: version, tables, pulse count and
-- pulses; 496 + count at 6 bits
abbrev pub length_with : ℕ → ℕ → ℕ
length_with P count = 1 + 2 * (entries P Energy + entries P Pitch + entries P K) + 1 + count

-- the length field
abbrev pub length_field : List ℕ → ℕ
length_field file = be16 file 0

-- the version byte, after it
abbrev pub version_byte : List ℕ → ℕ
version_byte file = byte_at file length_bytes

module _ (P : ℕ) (file : List ℕ) where
  -- entry i of a table: two bytes, big-endian
  abbrev pub entry_at : Table → ℕ → ℕ
  entry_at t i = be16 file (table_start P t + 2 * i)

  -- the energy at index i, of 0 to 14: energy 15 is the stop, and no table value
  abbrev pub energy_at : ℕ → ℤ
  energy_at i = pos (entry_at Energy i)

  -- the pitch at index i
  abbrev pub pitch_at : ℕ → ℤ
  pitch_at i = pos (entry_at Pitch i)

  -- the value of K number n at index i, in two's complement
  abbrev pub k_at : ℕ → ℕ → ℤ
  k_at n i = signed_word (entry_at K (k_begin n + i))

  -- the pulse count
  abbrev pub pulse_count : ℕ
  pulse_count = byte_at file (count_at P)

  -- the pulse table at a place, a signed byte; 0 past its end
  unfoldable pub pulse_at : ℕ → ℤ
  pulse_at place = cond (ltb place pulse_count) (signed_byte (byte_at file (pulse_start P + place))) (pos 0)
