-- Filling a buffer with the lines of frames, one after another.
-- Assumes nothing.
use mathlib.Core.Path.{◌≡◌, refl}
use mathlib.Core.List.{List, ◌++◌, append_assoc}
use Prim.Native.Nat.{ℕ, zero, suc, ◌+◌, ◌*◌, ◌-◌, ◌≤◌, ◌<◌}
use native.Mathlib.Numerals.{sub-one}
use native.Mathlib.Omega.{arith}
use lib.ListN.{length, take}
use Rattle.lister.specs.Listing.{line_at, after, lines_from}

-- of the lines from `bit` on, some are in the buffer and the `left` from `at` on are left
pub record Filling (s : List ℕ) (bit lines : ℕ) (out : List ℕ) (used at left : ℕ) : Type 0 where
  pub fewer : left ≤ lines
  pub short : used ≤ 80 * (lines - left)
  pub within : used ≤ length out
  pub listed : take used out ++ lines_from s at left ≡ lines_from s bit lines

pub filling_none : (s : List ℕ) (bit lines : ℕ) (out : List ℕ) → Filling s bit lines out 0 bit lines
filling_none s bit lines out =
    record { fewer = omega arith; short = omega arith; within = omega arith; listed = refl }

lines_next : (s : List ℕ) (at left : ℕ) → 0 < left → lines_from s at left ≡ line_at s at ++ lines_from s (after s at) (left - 1)
unfolding lines_from
lines_next s at zero h = absurd (omega arith)
lines_next s at (suc n) h = rw sub-one

pub filling_more : {s : List ℕ} {bit lines : ℕ} {out : List ℕ} {used at left : ℕ} → Filling s bit lines out used at left → 0 < left → used + 80 ≤ length out
    → {out' line : List ℕ} {used' at' : ℕ} → length out' ≡ length out → used' ≤ used + 80 → take used' out' ≡ take used out ++ line
    → line ≡ line_at s at → at' ≡ after s at
    → Filling s bit lines out' used' at' (left - 1)
filling_more {s} {bit} {lines} {out} {used} {at} {left} f h r {out'} {line} {used'} {at'} e u t l n =
    record {
      fewer = omega arith;
      short = omega arith;
      within = omega arith;
      listed =
          rw (t, l, n, append_assoc, ← lines_next s at left h) f.listed;
    }
