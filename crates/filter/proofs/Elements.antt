-- Each number of an array of signed integers fits its width.
-- Assumes nothing.
use mathlib.Core.List.{List, [], ◌∷◌}
use Prim.Native.Nat.{ℕ, zero, suc}
use lib.Pow.{pow_pos}
use lib.IntN.{ℤ, pos}
use lib.ListN.{get_or}
use mir.Syntax.{Width}
use mir.Val.{Val, SFits, hbits}
use denote.Array.{each}
use denote.Shadow.{shadow}
use denote.Signed.{SInt}

pub each_fits : (w : Width) (zs : List ℤ) (us : List Val) (i : ℕ) → shadow (each ℤ (SInt w).own_val zs us) → SFits w (get_or zs i (pos 0))
each_fits w [] us i p = record { sfits = pow_pos (hbits w) }
each_fits w (z ∷ zs) [] i p = absurd p
each_fits w (z ∷ zs) (u ∷ us) zero p = record { sfits = p.0.1 }
each_fits w (z ∷ zs) (u ∷ us) (suc i) p = each_fits w zs us i p.1
