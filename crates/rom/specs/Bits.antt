-- The bits of an image (01, "ROM"). An image is the list of its bytes.
use Rattle.std.specs.Prelude.{◌≡◌, Bool, ◌&&◌, not, List, [], ◌∷◌, ◌++◌, ℕ, zero, suc, ◌+◌, ◌*◌, ◌-◌, ◌/◌, ◌%◌, ◌^◌, ◌≤◌, leb, ltb, length}
use Rattle.base.specs.Bytes.{byte_at}
use Rattle.base.specs.Refusals.{IMAGE, BEYOND, first_fault}

-- the most bytes of an image
abbrev pub image_limit : ℕ
image_limit = 262144

-- a valid image: one without fault 3, length 0 or above the limit
abbrev pub image_valid : List ℕ → Bool
image_valid s = ltb 0 (length s) && leb (length s) image_limit

-- the fault of a call on an image: 3, then 2 where what is asked for lies beyond the end, which the caller tests
abbrev pub image_fault : List ℕ → Bool → ℕ
image_fault s beyond = first_fault ((not (image_valid s), IMAGE) ∷ (beyond, BEYOND) ∷ [])

-- bit i of the image s, the most significant of a byte first; 0 past the end
unfoldable pub bit : List ℕ → ℕ → ℕ
bit s i = byte_at s (i / 8) / 2 ^ (7 - i % 8) % 2

-- the field of w bits from bit `at` on, for every width: its first bit is its most significant
unfoldable pub field : List ℕ → ℕ → ℕ → ℕ
field s at zero = 0
field s at (suc w) = 2 * field s at w + bit s (at + w)

-- the w binary digits of x, the most significant first
unfoldable pub digits : ℕ → ℕ → List ℕ
digits zero x = []
digits (suc w) x = digits w (x / 2) ++ (x % 2 ∷ [])

-- the bits of bytes, one byte after another, each the most significant first
abbrev pub bits_of_bytes : List ℕ → List ℕ
bits_of_bytes [] = []
bits_of_bytes (b ∷ bs) = digits 8 b ++ bits_of_bytes bs

-- the image's bits from bit `at` on begin with bs
abbrev pub Begins : List ℕ → ℕ → List ℕ → Type 0
Begins s at [] = at ≤ 8 * length s
Begins s at (b ∷ bs) = (bit s at ≡ b) × Begins s (at + 1) bs
