-- The numbers of the filter, and ten of them in a range: K1 to K10, or the ten memories.
use Rattle.std.specs.Prelude.{◌≡◌, Bool, ◌&&◌, List, ℕ, eqb, ℤ, pos, neg_ℤ, length, get_or}
use Rattle.base.specs.Range.{Between, all_inside}

-- how many they are
abbrev pub stages : ℕ
stages = 10

-- the range of filter memory and forward values
abbrev pub memory_min : ℤ
memory_min = neg_ℤ (pos 8192)

abbrev pub memory_max : ℤ
memory_max = pos 8191

-- more than any sum that is saturated
abbrev pub sum_limit : ℕ
sum_limit = 8388608

-- whether they are ten, each in low..high
abbrev pub ten_inside : ℤ → ℤ → List ℤ → Bool
ten_inside low high zs = eqb (length zs) stages && all_inside low high zs

-- the same as a proposition: ten numbers, each in -n..p
pub record TenBetween (n p : ℕ) (zs : List ℤ) : Type 0 where
  pub size : length zs ≡ stages
  pub each : (i : ℕ) → Between n p (get_or zs i (pos 0))
