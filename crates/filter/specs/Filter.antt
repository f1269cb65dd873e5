-- The lattice filter (01, "Sound"), of any number of stages: a list of coefficients K and a list of memories, stage 1 first.
use Rattle.std.specs.Prelude.{List, [], ◌∷◌, ℕ, ℤ, ◌+ℤ◌, ◌-ℤ◌, ◌*ℤ◌, length, take}
use Rattle.std.specs.Int.Signed.{shr_z}
use Rattle.base.specs.Range.{clamped}
use Rattle.filter.specs.Ranges.{memory_min, memory_max}

-- held to -8192..8191
abbrev pub saturated : ℤ → ℤ
saturated z = clamped memory_min memory_max z

-- a coefficient counts in 512ths
abbrev pub k_unit : ℕ
k_unit = 512

-- floor(k × x / 512)
abbrev pub scaled : ℤ → ℤ → ℤ
scaled k x = shr_z (k *ℤ x) k_unit

-- forward i, of a stage with Ki = k and old memory i = m, from forward i+1 = f
abbrev pub forward_of : ℤ → ℤ → ℤ → ℤ
forward_of k m f = saturated (f -ℤ scaled k m)

-- new memory i+1, of a stage with Ki = k, old memory i = m and forward i = f
abbrev pub memory_of : ℤ → ℤ → ℤ → ℤ
memory_of k m f = saturated (m +ℤ scaled k f)

-- forward value 1: each stage's from that of the stage above it, and the last stage's from the input
abbrev pub forward : List ℤ → List ℤ → ℤ → ℤ
forward [] ms input = input
forward (k ∷ ks) [] input = input
forward (k ∷ ks) (m ∷ ms) input = forward_of k m (forward ks ms input)

-- new memory 2, 3 and so on, from old memory and the forward values
abbrev pub upper_memory : List ℤ → List ℤ → ℤ → List ℤ
upper_memory [] ms input = []
upper_memory (k ∷ ks) [] input = []
upper_memory (k ∷ ks) (m ∷ ms) input = memory_of k m (forward (k ∷ ks) (m ∷ ms) input) ∷ upper_memory ks ms input

-- new memory: new memory 1 is forward 1; there is none above the last stage
abbrev pub new_memory : List ℤ → List ℤ → ℤ → List ℤ
new_memory ks ms input = take (length ms) (forward ks ms input ∷ upper_memory ks ms input)
