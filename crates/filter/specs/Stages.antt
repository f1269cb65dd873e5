-- The filter in place, from the last stage down: what it has given after some of its stages.
use Rattle.std.specs.Prelude.{List, ◌∷◌, ◌++◌, ℕ, suc, ℤ, pos, length, get_or, set, take, drop}
use Rattle.filter.specs.Filter.{forward_of, memory_of, forward, upper_memory}

-- the stage at index i, below a stage with forward value f: its forward value
abbrev pub stage_forward : List ℤ → List ℤ → ℤ → ℕ → ℤ
stage_forward ks ms f i = forward_of (get_or ks i (pos 0)) (get_or ms i (pos 0)) f

-- and the memory with the one above renewed, if there is one
abbrev pub stage_memory : List ℤ → List ℤ → ℤ → ℕ → List ℤ
stage_memory ks ms f i = set ms (suc i) (memory_of (get_or ks i (pos 0)) (get_or ms i (pos 0)) (stage_forward ks ms f i))

-- the lowest n stages, below a stage with forward value f: forward value 1
abbrev pub lowest_forward : List ℤ → List ℤ → ℤ → ℕ → ℤ
lowest_forward ks ms f n = forward (take n ks) (take n ms) f

-- and the memory renewed as far as these stages give it
abbrev pub lowest_memory : List ℤ → List ℤ → ℤ → ℕ → List ℤ
lowest_memory ks ms f n =
    take (length ms) (lowest_forward ks ms f n ∷ (upper_memory (take n ks) (take n ms) f ++ drop (suc n) ms))
