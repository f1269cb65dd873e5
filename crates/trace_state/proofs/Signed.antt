-- Fields' values as numbers of the list, and back.
-- Assumes nothing.
use mathlib.Core.Path.{◌≡◌, refl}
use mathlib.Core.Bool.{Bool, true, false}
use mathlib.Core.List.{List, [], ◌∷◌, map}
use Prim.Native.Nat.{ℕ, zero, suc, ◌%◌, ◌^◌, ◌≤◌, ◌<◌, min}
use native.Mathlib.Omega.{arith}
use lib.IntN.{ℤ, pos, negsuc, neg_ℤ}
use lib.ListN.{get_or}
use Rattle.base.specs.Range.{Between, clamped}
use Rattle.base.proofs.Range.{is_not_less}
use Rattle.chip_numbers.specs.Types.{Mode, Idle, Rom, Waiting, External}
use Rattle.chip_numbers.specs.Numbers.{flag, mode_number}
use Rattle.trace_state.specs.Numbers.{wide, natural, short, flag_of, mode_of}

-- ---- 16 bits

pub short_back : {z : ℤ} → Between 32768 32767 z → short z ≡ z
unfolding clamped
short_back {z} h = rw (is_not_less z (neg_ℤ (pos 32768)) (omega arith), is_not_less (pos 32767) z (omega arith))

pub shorts_back : (zs : List ℤ) → ((i : ℕ) → Between 32768 32767 (get_or zs i (pos 0))) → map short zs ≡ zs
shorts_back [] h = refl
shorts_back (z ∷ zs) h = rw (short_back (h 0), shorts_back zs (λ i. h (suc i)))

-- ---- a value in its range comes back

pub natural_back : (most n : ℕ) → n ≤ most → most < 2 ^ 63 → natural most (wide n) ≡ n
natural_back most n h k = let e : n % 2 ^ 63 ≡ n = omega arith in rw e (omega arith)

pub naturals_back : (most : ℕ) (s : List ℕ) → ((i : ℕ) → get_or s i 0 ≤ most) → most < 2 ^ 63 → map (natural most) (map wide s) ≡ s
naturals_back most [] h k = refl
naturals_back most (n ∷ s) h k = rw (natural_back most n (h 0) k, naturals_back most s (λ i. h (suc i)) k)

pub level_back : {most : ℕ} {z : ℤ} → Between 0 most z → pos (natural most z) ≡ z
level_back {most} {z = pos n} h = let e : natural most (pos n) ≡ n = omega arith in rw e
level_back {z = negsuc n} h = absurd (omega arith)

pub flag_back : (b : Bool) → flag_of (wide (flag b)) ≡ b
flag_back true = refl
flag_back false = refl

pub mode_back : (m : Mode) → mode_of (wide (mode_number m)) ≡ m
mode_back Idle = refl
mode_back Rom = refl
mode_back Waiting = refl
mode_back External = refl

-- ---- a mode beyond the last is the last

pub mode_is : (z : ℤ) → get_or (Idle ∷ Rom ∷ Waiting ∷ []) (natural 3 z) External ≡ mode_of z
mode_is (pos n) = of (min n 3) (omega arith)
  where
    of : (n : ℕ) → n ≤ 3 → get_or (Idle ∷ Rom ∷ Waiting ∷ []) n External ≡ get_or (Idle ∷ Rom ∷ Waiting ∷ External ∷ []) n Idle
    of zero h = refl
    of (suc zero) h = refl
    of (suc (suc zero)) h = refl
    of (suc (suc (suc zero))) h = refl
    of (suc (suc (suc (suc n)))) h = absurd (omega arith)
mode_is (negsuc n) = refl
