-- Laws of two's complement, for every weight of the sign bit.
-- Assumes nothing.
use Prim.Native.Nat.{ℕ, suc, ◌*◌, ◌/◌, ◌%◌, ◌≤◌}
use native.Mathlib.Nat.{mod-lt, mul-le-mul_right}
use native.Mathlib.Omega.{arith}
use Rattle.base.specs.Range.{Between}
use Rattle.base.proofs.Range.{difference, signed}
use Rattle.voice.specs.Layout.{twos_complement}

-- what the sign bit counts
sign_part : (sign n : ℕ) → n / sign % 2 * sign ≤ sign
sign_part sign n = omega (arith, mul-le-mul_right {m = n / sign % 2} {n = 1} sign (omega arith))

-- a number in two's complement is in -sign..sign - 1
pub signed_range : (p n : ℕ) → Between (suc p) p (twos_complement (suc p) n)
unfolding twos_complement
signed_range p n =
    let h : n % suc p ≤ p = omega (arith, mod-lt n {m = suc p} (omega arith)) in
    omega (arith, difference (signed h) (signed (sign_part (suc p) n)))
