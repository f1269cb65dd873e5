-- A field's value as a number, and a number as a field's value.
use Rattle.std.specs.Prelude.{Bool, true, false, cond, [], ◌∷◌, ℕ, ◌-◌, ◌%◌, ◌^◌, eqb, ℤ, pos, negsuc, get_or}
use Rattle.base.specs.Range.{pos_part}
use Rattle.chip_numbers.specs.Types.{BitOrder, LeastFirst, MostFirst, Device, Tms5220, Tms5220C, Mode, Idle, Rom, Waiting, External}

-- ---- a field's value as a number

-- 0 false, 1 true
abbrev pub flag : Bool → ℕ
flag false = 0
flag true = 1

-- 0 idle, 1 speaking from ROM, 2 external waiting, 3 external speaking
abbrev pub mode_number : Mode → ℕ
mode_number Idle = 0
mode_number Rom = 1
mode_number Waiting = 2
mode_number External = 3

-- 0 TMS5220, 1 TMS5220C
abbrev pub kind_number : Device → ℕ
kind_number Tms5220 = 0
kind_number (Tms5220C r) = 1

-- 0 least significant bit first, 1 most significant first
abbrev pub order_number : BitOrder → ℕ
order_number LeastFirst = 0
order_number MostFirst = 1

-- a natural number, of which an i32 holds 31 bits; those of a valid chip have no more
abbrev pub number : ℕ → ℤ
number n = pos (n % 2 ^ 31)

-- ---- a number as a field's value; what is told of numbers that do not fit the field is not seen (`fits`, in Chips)

-- a byte: the low eight bits
abbrev pub byte_of : ℤ → ℕ
byte_of (pos n) = n % 256
byte_of (negsuc n) = 255 - n % 256

abbrev pub flag_of : ℤ → Bool
flag_of z = eqb (pos_part z) 1

abbrev pub order_of : ℤ → BitOrder
order_of z = cond (flag_of z) MostFirst LeastFirst

abbrev pub mode_of : ℤ → Mode
mode_of z = get_or (Idle ∷ Rom ∷ Waiting ∷ []) (pos_part z) External
