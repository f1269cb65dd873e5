-- Which entries of a table are in range.
-- Assumes nothing.
use mathlib.Core.Path.{◌≡◌}
use mathlib.Core.Logic.{⊎_elim}
use mathlib.Core.Bool.{Bool, true}
use mathlib.Core.List.{List}
use Prim.Native.Nat.{ℕ, zero, suc, ◌≤◌, ◌<◌}
use native.Mathlib.Nat.{eq-or-lt_of_le}
use native.Mathlib.Omega.{arith}
use borrow.Author.Tests.{eqb-true, leb-true}
use lib.Dec.{eqb, leb}
use Rattle.base.proofs.Booleans.{both_true, by_test}
use Rattle.voice.specs.Layout.{entry_at}
use Rattle.voice.specs.Check.{unsigned_valid, entry_valid, entries_valid}
use Rattle.voice.specs.declared.layout.Table.{Table}

module _ (P : ℕ) (file : List ℕ) (t : Table) where
  -- each of a table's first n entries is in range where all are
  pub each_valid : (n : ℕ) → entries_valid P file t n ≡ true → (i : ℕ) → i < n → entry_valid t i (entry_at P file t i) ≡ true
  unfolding entries_valid
  each_valid zero e i h = absurd (omega arith)
  each_valid (suc n) e i h =
      let b = both_true (entries_valid P file t n) (entry_valid t n (entry_at P file t n)) e in
      ⊎_elim (λ p. rw p b.1) (λ l. each_valid n b.0 i l) (eq-or-lt_of_le {n = i} {m = n} (omega arith))

-- an energy or a pitch in range is at most 1023
pub unsigned_most : (least i w : ℕ) → unsigned_valid least i w ≡ true → w ≤ 1023
unsigned_most least i w e =
    by_test (λ (valid : Bool). valid ≡ true → w ≤ 1023) (eqb i 0)
    (λ first h. omega (arith, eqb-true w 0 h))
    (λ later h. leb-true w 1023 (both_true (leb least w) (leb w 1023) h).1) e
