-- The bytes of an image or a voice file, which is the list of them.
use Rattle.std.specs.Prelude.{List, ℕ, get_or}

-- byte i of s; 0 past the end
abbrev pub byte_at : List ℕ → ℕ → ℕ
byte_at s i = get_or s i 0
