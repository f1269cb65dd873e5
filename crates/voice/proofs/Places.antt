-- Where the K values stand in a voice file.
-- Assumes nothing.
use mathlib.Core.Path.{ap}
use mathlib.Core.List.{List, [], ◌∷◌}
use Prim.Native.Nat.{ℕ, zero, suc, ◌+◌, ◌≤◌, ◌<◌}
use native.Mathlib.Omega.{arith}
use lib.ListN.{get_or, take}
use lib.Seq.{take-nil}
use Rattle.voice.specs.Layout.{total}

-- where each of several tables begins, of which the first begins at a
abbrev pub begins : ℕ → List ℕ → List ℕ
begins a [] = []
begins a (n ∷ ns) = a ∷ begins (a + n) ns

-- an index of K number n is one of the K values
pub k_place : (ns : List ℕ) (n i : ℕ) → i < get_or ns n 0 → total (take n ns) + i < total ns
k_place [] n i h = absurd (omega arith)
k_place (m ∷ ns) zero i h = omega arith
k_place (m ∷ ns) (suc n) i h = omega (arith, k_place ns n i h)

-- no K begins past the last K value
pub total_take_le : (ns : List ℕ) (n : ℕ) → total (take n ns) ≤ total ns
total_take_le [] n = omega (arith, ap total (take-nil {A = ℕ} n))
total_take_le (m ∷ ns) zero = omega arith
total_take_le (m ∷ ns) (suc n) = omega (arith, total_take_le ns n)
