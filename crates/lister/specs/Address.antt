-- The byte address that the lister's argument gives, in decimal digits.
use Rattle.std.specs.Prelude.{Bool, true, cond, ◌&&◌, List, [], ◌∷◌, ℕ, ◌+◌, ◌*◌, ◌-◌, leb, ltb, length}
use Rattle.rom.specs.Bits.{image_limit}

-- the ASCII code of a decimal digit
abbrev pub is_digit : ℕ → Bool
is_digit c = leb 48 c && leb c 57

-- each is a digit
unfoldable pub all_digits : List ℕ → Bool
all_digits [] = true
all_digits (c ∷ cs) = is_digit c && all_digits cs

-- the number of some digits, where n is that of the digits before them
unfoldable pub number_after : ℕ → List ℕ → ℕ
number_after n [] = n
number_after n (c ∷ cs) = number_after (10 * n + (c - 48)) cs

-- The address that some characters give after those of the number n: the number of all; or the first address past every
-- image, where no byte of an image has that address or one of the characters is no digit.
unfoldable pub address_after : ℕ → List ℕ → ℕ
address_after n cs = let v = number_after n cs in cond (ltb v image_limit && all_digits cs) v image_limit

-- the address that a text gives; an empty one is no number
unfoldable pub address_of : List ℕ → ℕ
address_of text = cond (ltb 0 (length text)) (address_after 0 text) image_limit
