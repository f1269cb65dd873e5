-- Scripts: their records, and the numbers in these.
use Rattle.std.specs.Prelude.{cond, ◌&&◌, ◌||◌, List, [], ℕ, suc, ◌+◌, ◌*◌, ◌-◌, ◌/◌, ◌%◌, ◌^◌, eqb, leb, ltb, ℤ, pos, negsuc, length, take, drop, Option, Some, None}
use Rattle.base.specs.Bytes.{byte_at}

-- the most bytes of a script
abbrev pub limit : ℕ
limit = 1048576

-- the most samples of a run
abbrev pub run_limit : ℕ
run_limit = 8192

-- how many numbers a chip's state has
abbrev pub state_length : ℕ
state_length = 69

-- the u32 from byte i on, little-endian
unfoldable pub le32 : List ℕ → ℕ → ℕ
le32 s i = byte_at s i + 256 * byte_at s (i + 1) + 65536 * byte_at s (i + 2) + 16777216 * byte_at s (i + 3)

-- the number whose 64 bits in two's complement are n
abbrev pub signed : ℕ → ℤ
signed n = cond (ltb n (2 ^ 63)) (pos n) (negsuc (2 ^ 64 - suc n))

-- the i64 from byte i on
abbrev pub le_i64 : List ℕ → ℕ → ℤ
le_i64 s i = signed (le32 s i + 4294967296 * le32 s (i + 4))

-- the bytes from `from` on up to `end`, none where the script has not all of them
abbrev pub part_of : List ℕ → ℕ → ℕ → List ℕ
part_of s from end = cond (leb from end && leb end (length s)) (take (end - from) (drop from s)) []

-- What follows a letter, of which `count` is the first u32: nothing after P, Q, R, L, K and T; a byte after W; a u32 after F, A and U,
-- of which U's is at most `run_limit`; v and a u32 after G; v, rr and a u32 after B; a state's i64 after S; a u32 and that many bytes
-- after I and V; a device and an order, each 0 or 1, after O. No other letter begins a record.
unfoldable pub body_of : ℕ → ℕ → Option ℕ
body_of letter count =
    cond (eqb letter 80 || eqb letter 81 || eqb letter 82 || eqb letter 76 || eqb letter 75 || eqb letter 84) (Some 0)
    (cond (eqb letter 87) (Some 1)
    (cond (eqb letter 70 || eqb letter 65 || (eqb letter 85 && leb count run_limit)) (Some 4)
    (cond (eqb letter 71) (Some 5)
    (cond (eqb letter 66) (Some 6)
    (cond (eqb letter 83) (Some (8 * state_length))
    (cond (eqb letter 73 || eqb letter 86) (Some (4 + count))
    (cond (eqb letter 79 && leb (count % 256) 1 && leb (count / 256 % 256) 1) (Some 2)
    None)))))))

-- the byte after the record with this body from byte `start` on, in a script of n bytes; none where the record is cut off
abbrev pub record_of : ℕ → ℕ → Option ℕ → Option ℕ
record_of n start None = None
record_of n start (Some size) = cond (leb size (n - start)) (Some (start + size)) None

-- the byte after the record that begins with byte `at`
abbrev pub record_at : List ℕ → ℕ → Option ℕ
record_at s at = record_of (length s) (at + 1) (body_of (byte_at s at) (le32 s (at + 1)))
