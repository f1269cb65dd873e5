-- What a text holds, and a word and a number as ASCII codes.
use Rattle.std.specs.Prelude.{cond, List, [], ◌∷◌, ◌++◌, ℕ, zero, suc, ◌+◌, ◌/◌, ◌%◌, ltb, take}
use Prim.Native.Char.{code}
use Prim.Native.String.{String, [] as []ˢ, ◌∷◌ as ◌∷ˢ◌}
use Rattle.lister.specs.declared.text.Text.{Text}

-- the bytes that a text holds
unfoldable pub contents : Text → List ℕ
contents t = t.bytes.items

-- a text, then the bytes s; a text holds 80 bytes, and the rest is dropped
unfoldable pub appended : Text → List ℕ → List ℕ
appended t s = take 80 (contents t ++ s)

-- the ASCII codes of a text
abbrev pub codes : String → List ℕ
codes []ˢ = []
codes (c ∷ˢ s) = code c ∷ codes s

-- the decimal digits of n, at most k: its last digit, and before it those of n / 10 where n is 10 or more
unfoldable pub digits_of : ℕ → ℕ → List ℕ
digits_of zero n = []
digits_of (suc k) n = cond (ltb n 10) [] (digits_of k (n / 10)) ++ ((48 + n % 10) ∷ [])

-- the decimal digits of n, of which there are no more than n + 1
unfoldable pub decimal : ℕ → List ℕ
decimal n = digits_of (suc n) n
