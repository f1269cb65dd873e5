-- How many intervals a frame can skip, and that every byte's rate is in range.
-- Assumes nothing.
use mathlib.Core.Path.{◌≡◌}
use mathlib.Core.Bool.{true}
use Prim.Native.Nat.{ℕ, ◌≤◌, ◌/◌, ◌%◌}
use native.Mathlib.Omega.{arith}
use borrow.Author.Tests.{le-leb}
use Rattle.rates.specs.Rates.{rate_of_byte, rate_valid, skipped_with}
use Rattle.rates.specs.Form.{rate_form, KeepsSome}
use Rattle.rates.specs.declared.rate.FrameRate.{FrameRate}

pub skips_few : (r : FrameRate) (q : ℕ) → (skipped_with r q).0 ≤ 6
skips_few r q = omega arith

pub loaded_valid : (b : ℕ) → rate_valid (rate_of_byte b) ≡ true
loaded_valid b = rw (le-leb (b / 4 % 2) 1 (omega arith), le-leb (b % 4) 3 (omega arith))

pub rate_keeps : (r : FrameRate) (P : ℕ) → KeepsSome (rate_form r P)
rate_keeps r P q = omega (arith, skips_few r q)
