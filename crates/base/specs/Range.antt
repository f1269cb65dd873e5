-- Ranges of integers (01, "State ranges"; "Sound", held to): as tests, and as facts on natural numbers, for which there is
-- linear arithmetic.
use Rattle.std.specs.Prelude.{Bool, true, not, cond, ◌&&◌, List, [], ◌∷◌, ℕ, suc, ◌≤◌, ℤ, pos, negsuc}
use Rattle.std.specs.Int.Signed.{lt_z}

-- the positive part of z: z, or 0 where z is below 0
abbrev pub pos_part : ℤ → ℕ
pos_part (pos n) = n
pos_part (negsuc n) = 0

-- the negative part of z: -z, or 0 where z is not below 0; z is its positive part less its negative part
abbrev pub neg_part : ℤ → ℕ
neg_part (pos n) = 0
neg_part (negsuc n) = suc n

-- -n ≤ z ≤ p
pub record Between (n p : ℕ) (z : ℤ) : Type 0 where
  pub low : neg_part z ≤ n
  pub high : pos_part z ≤ p

-- whether z is in low..high
abbrev pub inside : ℤ → ℤ → ℤ → Bool
inside low high z = not (lt_z z low) && not (lt_z high z)

-- whether each number of a list is in low..high
abbrev pub all_inside : ℤ → ℤ → List ℤ → Bool
all_inside low high [] = true
all_inside low high (z ∷ zs) = inside low high z && all_inside low high zs

-- z, or the end of low..high that it lies beyond
unfoldable pub clamped : ℤ → ℤ → ℤ → ℤ
clamped low high z = cond (lt_z z low) low (cond (lt_z high z) high z)
