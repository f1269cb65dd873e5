-- A nibble is below five, and so its weight at most that of the fifth.
use Prim.Native.Nat.{ℕ, ◌^◌, ◌≤◌, ◌<◌}
use native.Mathlib.Nat.{one-le-pow, pow-le-pow_right}
use native.Mathlib.Omega.{arith}
use Rattle.address.specs.Addresses.{nibbles}
use Rattle.address.proofs.weight.Goals as goal

at_most : (n : ℕ) → n < nibbles → 16 ^ n ≤ 65536
at_most n h = let four : n ≤ 4 = omega arith in pow-le-pow_right {n = 16} (omega arith) four

pub pow-requires : goal.pow-requires
pow-requires c = rw c.from.ensures (omega (arith, at_most c.args.nibble c.requires))

pub returns : goal.returns
returns c =
    rw (c.pow.ensures, c.from.ensures) (omega (arith, at_most c.args.nibble c.requires, one-le-pow c.args.nibble 16 (omega arith)))
