-- A field's value as a number of the list, and a number of the list as a field's value.
use Rattle.std.specs.Prelude.{Bool, cond, [], ◌∷◌, ℕ, ◌%◌, ◌^◌, min, eqb, ℤ, pos, negsuc, neg_ℤ, get_or}
use Rattle.base.specs.Range.{clamped}
use Rattle.chip_numbers.specs.Types.{BitOrder, LeastFirst, MostFirst, Mode, Idle, Rom, Waiting, External}

-- a natural number, of which an i64 holds 63 bits
abbrev pub wide : ℕ → ℤ
wide n = pos (n % 2 ^ 63)

-- what is beyond 0..most becomes its nearest end
abbrev pub natural : ℕ → ℤ → ℕ
natural most (pos n) = min n most
natural most (negsuc n) = 0

-- what is beyond -32,768..32,767 becomes its nearest end
abbrev pub short : ℤ → ℤ
short z = clamped (neg_ℤ (pos 32768)) (pos 32767) z

-- a flag; what is beyond 0..1 becomes its nearest end
abbrev pub flag_of : ℤ → Bool
flag_of z = eqb (natural 1 z) 1

-- an order; what is beyond 0..1 becomes its nearest end
abbrev pub order_of : ℤ → BitOrder
order_of z = cond (flag_of z) MostFirst LeastFirst

-- a mode; what is beyond 0..3 becomes its nearest end
abbrev pub mode_of : ℤ → Mode
mode_of z = get_or (Idle ∷ Rom ∷ Waiting ∷ External ∷ []) (natural 3 z) Idle
