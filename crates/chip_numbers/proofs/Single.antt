-- A single number, to a field and back.
-- Assumes nothing.
use mathlib.Core.Path.{◌≡◌, refl, ap}
use mathlib.Core.Bool.{Bool, true, false, cond, ◌&&◌, ◌||◌, false≢true}
use mathlib.Core.List.{List, [], ◌∷◌, ◌++◌, map}
use Prim.Native.Nat.{ℕ, zero, suc, ◌%◌, ◌^◌, ◌≤◌, ◌<◌}
use native.Mathlib.Omega.{arith}
use lib.IntN.{ℤ, pos, negsuc}
use lib.ListN.{length, get_or, replicate}
use Rattle.base.specs.Range.{Between, pos_part, inside}
use Rattle.base.proofs.Booleans.{both_true}
use Rattle.base.proofs.Range.{tested, testing}
use Rattle.control.specs.Device.{rate_of}
use Rattle.chip_numbers.specs.Types.{BitOrder, LeastFirst, MostFirst, Device, Tms5220, Tms5220C, Mode, Idle, Rom, Waiting, External}
use Rattle.chip_numbers.specs.Numbers.{flag, mode_number, kind_number, order_number, number, byte_of, flag_of, order_of, mode_of}
use Rattle.chip_numbers.specs.Chips.{byte, within}

-- ---- a field's value comes back

pub natural_back : (n : ℕ) → n < 2 ^ 31 → pos_part (number n) ≡ n
natural_back n h = omega arith

pub byte_back : (n : ℕ) → n ≤ 255 → byte_of (number n) ≡ n
byte_back n h = omega arith

pub bytes_back : (bs : List ℕ) → ((i : ℕ) → get_or bs i 0 ≤ 255) → map byte_of (map number bs) ≡ bs
bytes_back [] h = refl
bytes_back (b ∷ bs) h = rw (byte_back b (h 0), bytes_back bs (λ i. h (suc i)))

pub flag_back : (b : Bool) → flag_of (number (flag b)) ≡ b
flag_back true = refl
flag_back false = refl

pub mode_back : (m : Mode) → mode_of (number (mode_number m)) ≡ m
mode_back Idle = refl
mode_back Rom = refl
mode_back Waiting = refl
mode_back External = refl

pub order_back : (o : BitOrder) → order_of (number (order_number o)) ≡ o
order_back LeastFirst = refl
order_back MostFirst = refl

-- the device of three numbers
abbrev pub device_from : ℤ → ℤ → ℤ → Device
device_from z v r = cond (flag_of z) (Tms5220C (record { v = byte_of v; rr = byte_of r })) Tms5220

pub device_back : (d : Device) → (rate_of d).v ≤ 255 → (rate_of d).rr ≤ 255
    → device_from (number (kind_number d)) (number (rate_of d).v) (number (rate_of d).rr) ≡ d
device_back Tms5220 v r = refl
device_back (Tms5220C q) v r = rw (byte_back q.v v, byte_back q.rr r)

-- ---- and fits

pub number_fits : (n p : ℕ) → n ≤ p → inside (pos 0) (pos p) (number n) ≡ true
number_fits n p h = testing 0 p {z = number n} (record { low = omega arith; high = omega arith })

pub flag_fits : (b : Bool) → inside (pos 0) (pos 1) (number (flag b)) ≡ true
flag_fits true = refl
flag_fits false = refl

pub mode_fits : (m : Mode) → inside (pos 0) (pos 3) (number (mode_number m)) ≡ true
mode_fits Idle = refl
mode_fits Rom = refl
mode_fits Waiting = refl
mode_fits External = refl

pub kind_fits : (d : Device) → inside (pos 0) (pos 1) (number (kind_number d)) ≡ true
kind_fits Tms5220 = refl
kind_fits (Tms5220C q) = refl

pub order_fits : (o : BitOrder) → inside (pos 0) (pos 1) (number (order_number o)) ≡ true
order_fits LeastFirst = refl
order_fits MostFirst = refl

-- the test of a TMS5220's rate
abbrev pub rate_test : ℤ → List ℤ → Bool
rate_test z zs = flag_of z || within (pos 0 ∷ pos 0 ∷ []) zs

pub rate_fits_lem : (d : Device) (zs : List ℤ) → rate_test (number (kind_number d)) (number (rate_of d).v ∷ number (rate_of d).rr ∷ zs) ≡ true
rate_fits_lem Tms5220 zs = refl
rate_fits_lem (Tms5220C q) zs = refl

pub bytes_fit : (bs : List ℕ) (zs : List ℤ) → ((i : ℕ) → get_or bs i 0 ≤ 255) → within (replicate (length bs) byte) (map number bs ++ zs) ≡ true
bytes_fit [] zs h = refl
bytes_fit (b ∷ bs) zs h = rw (number_fits b 255 (h 0)) (bytes_fit bs zs (λ i. h (suc i)))

-- ---- a number that fits stays

pub natural_stays : {z : ℤ} → Between 0 2147483647 z → number (pos_part z) ≡ z
natural_stays {z = pos n} h = let e : n % 2 ^ 31 ≡ n = omega arith in ap pos e
natural_stays {z = negsuc n} h = absurd (omega arith)

pub byte_stays : {z : ℤ} → Between 0 255 z → number (byte_of z) ≡ z
byte_stays {z = pos n} h = let e : n % 256 % 2 ^ 31 ≡ n = omega arith in ap pos e
byte_stays {z = negsuc n} h = absurd (omega arith)

pub flag_stays : {z : ℤ} → Between 0 1 z → number (flag (flag_of z)) ≡ z
flag_stays {z = pos zero} h = refl
flag_stays {z = pos (suc zero)} h = refl
flag_stays {z = pos (suc (suc n))} h = absurd (omega arith)
flag_stays {z = negsuc n} h = absurd (omega arith)

pub mode_stays : {z : ℤ} → Between 0 3 z → number (mode_number (mode_of z)) ≡ z
mode_stays {z = pos zero} h = refl
mode_stays {z = pos (suc zero)} h = refl
mode_stays {z = pos (suc (suc zero))} h = refl
mode_stays {z = pos (suc (suc (suc zero)))} h = refl
mode_stays {z = pos (suc (suc (suc (suc n))))} h = absurd (omega arith)
mode_stays {z = negsuc n} h = absurd (omega arith)

pub bytes_stay : (zs : List ℤ) → ((i : ℕ) → i < length zs → Between 0 255 (get_or zs i (pos 0))) → map number (map byte_of zs) ≡ zs
bytes_stay [] h = refl
bytes_stay (z ∷ zs) h = rw (byte_stays (h 0 (omega arith)), bytes_stay zs (λ i k. h (suc i) (omega arith)))

pub order_stays : {z : ℤ} → Between 0 1 z → number (order_number (order_of z)) ≡ z
order_stays {z = pos zero} h = refl
order_stays {z = pos (suc zero)} h = refl
order_stays {z = pos (suc (suc n))} h = absurd (omega arith)
order_stays {z = negsuc n} h = absurd (omega arith)

-- the numbers of a device
pub record DeviceStays (z v r : ℤ) : Type 0 where
  pub kind : number (kind_number (device_from z v r)) ≡ z
  pub first : number (rate_of (device_from z v r)).v ≡ v
  pub second : number (rate_of (device_from z v r)).rr ≡ r

zero_is : {z : ℤ} → Between 0 0 z → pos 0 ≡ z
zero_is {z = pos zero} h = refl
zero_is {z = pos (suc n)} h = absurd (omega arith)
zero_is {z = negsuc n} h = absurd (omega arith)

pub device_stays : {z v r : ℤ} (zs : List ℤ) → Between 0 1 z → Between 0 255 v → Between 0 255 r → rate_test z (v ∷ r ∷ zs) ≡ true → DeviceStays z v r
device_stays {z = pos zero} {v} {r} zs h a b e =
    let t = both_true (inside (pos 0) (pos 0) v) (inside (pos 0) (pos 0) r && true) e in
    let u = both_true (inside (pos 0) (pos 0) r) true t.1 in
    record { kind = refl; first = zero_is (tested 0 0 v t.0); second = zero_is (tested 0 0 r u.0) }
device_stays {z = pos (suc zero)} zs h a b e = record { kind = refl; first = byte_stays a; second = byte_stays b }
device_stays {z = pos (suc (suc n))} zs h a b e = absurd (omega arith)
device_stays {z = negsuc n} zs h a b e = absurd (omega arith)

-- ---- each number that is tested

pub each_inside : (ms zs : List ℤ) → within ms zs ≡ true → (i : ℕ) → i < length ms → inside (pos 0) (get_or ms i (pos 0)) (get_or zs i (pos 0)) ≡ true
each_inside [] zs e i h = absurd (omega arith)
each_inside (m ∷ ms) [] e i h = absurd (false≢true e)
each_inside (m ∷ ms) (z ∷ zs) e zero h = (both_true (inside (pos 0) m z) (within ms zs) e).0
each_inside (m ∷ ms) (z ∷ zs) e (suc i) h = each_inside ms zs (both_true (inside (pos 0) m z) (within ms zs) e).1 i (omega arith)
