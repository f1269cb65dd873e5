-- The operations of the C library on a chip: each is the operation of its name on the chip that the numbers say.
use Rattle.std.specs.Prelude.{Result, Ok, Err, ◌≡◌, cond, ◌||◌, List, [], ◌∷◌, ℕ, eqb, ltb, ℤ}
use Rattle.base.specs.Refusals.{TAKEN, STATE, first_fault, unless_fault}
use Rattle.base.specs.declared.refusal.Refusal.{Refusal}
use Rattle.rates.specs.Rates.{power_up_rate}
use Rattle.chip.specs.Read.{read_fault, look_of, acknowledge_of, read_of}
use Rattle.chip.specs.Run.{run_of, buffer_of}
use Rattle.chip.specs.State.{power_up_of}
use Rattle.chip.specs.Step.{step_of}
use Rattle.chip.specs.Write.{write_of}
use Rattle.chip.specs.Types.{Acknowledged}
use Rattle.chip.specs.Types.{ByteRead}
use Rattle.chip.specs.Types.{Ran}
use Rattle.chip.specs.Types.{Stepped}
use Rattle.chip.specs.Types.{Written}
use Rattle.chip_numbers.specs.Types.{BitOrder, LeastFirst, MostFirst, Device, Tms5220, Tms5220C, Chip}
use Rattle.chip_numbers.specs.Chips.{chip_numbers, chip_of}

-- the version of the interface
abbrev pub abi : ℕ
abi = 1

-- the numbers after a call that answered n and handed back the chip c; refused, they are as they were
abbrev pub numbers_after : List ℤ → ℕ → Chip → List ℤ
numbers_after s n c = unless_fault n (λ r. s) (chip_numbers c)

-- the same by the answer of the call
abbrev pub settled : List ℤ → Result Chip Refusal → List ℤ
settled s (Ok next) = chip_numbers next
settled s (Err r) = s

-- where it is taken, they say that chip, so that the next call goes on from it
abbrev pub SaysNext : List ℤ → ℕ → Chip → Type 0
SaysNext s n c = n ≡ TAKEN → chip_of s ≡ c

-- ---- power-up

-- 0 TMS5220, 1 TMS5220C
abbrev pub device_named : ℕ → Device
device_named d = cond (eqb d 0) Tms5220 (Tms5220C power_up_rate)

-- 0 least significant bit first, 1 most significant first
abbrev pub order_named : ℕ → BitOrder
order_named o = cond (eqb o 0) LeastFirst MostFirst

-- another device or another order is refused with 4
abbrev pub name_fault : ℕ → ℕ → ℕ
name_fault d o = first_fault ((ltb 1 d || ltb 1 o, STATE) ∷ [])

-- the chip
abbrev pub power_up_named : ℕ → ℕ → Chip
power_up_named d o = power_up_of (device_named d) (order_named o)

-- ---- the operations. Numbers that are no chip's say a chip that is not valid, so that they are refused as it is: with 4, where that
-- comes in the order of the checks

-- may these numbers be resumed?
abbrev pub check_on : List ℤ → ℕ
check_on s = read_fault (chip_of s)

abbrev pub write_on : List ℕ → List ℤ → ℕ → Written
write_on image s byte = write_of image (chip_of s) byte

abbrev pub look_on : List ℤ → ByteRead
look_on s = look_of (chip_of s)

abbrev pub acknowledge_on : List ℤ → Acknowledged
acknowledge_on s = acknowledge_of (chip_of s)

abbrev pub read_on : List ℤ → ByteRead
read_on s = read_of (chip_of s)

abbrev pub step_on : List ℕ → List ℕ → List ℤ → Stepped
step_on image voice s = step_of image voice (chip_of s)

abbrev pub run_on : List ℕ → List ℕ → List ℤ → ℕ → Ran
run_on image voice s n = run_of image voice (chip_of s) n

-- the run's buffer
abbrev pub buffer_on : List ℕ → List ℕ → List ℤ → List ℤ → List ℤ
buffer_on image voice s out = buffer_of image voice (chip_of s) out
