-- What a FIFO's fields are within given bounds, from the tests, and back.
-- Assumes nothing.
use mathlib.Core.Path.{◌≡◌, refl}
use mathlib.Core.Bool.{true}
use mathlib.Core.List.{List, [], ◌∷◌}
use Prim.Native.Nat.{ℕ, zero, suc, ◌≤◌}
use borrow.Author.Tests.{leb-true, eqb-true, le-leb, eq-eqb}
use lib.Dec.{eqb, leb}
use lib.ListN.{length, drop}
use Rattle.base.proofs.Booleans.{both_true, all_true}
use Rattle.fifo.specs.declared.Fifo.{Fifo}
use Rattle.fifo.specs.Buffer.{fifo_size, all_zero, clear_from, fifo_inside}

-- what follows zero bytes is zero
pub zero_from : (l : List ℕ) (n : ℕ) → all_zero l ≡ true → all_zero (drop n l) ≡ true
zero_from l zero h = h
zero_from [] (suc n) h = refl
zero_from (x ∷ l) (suc n) h = zero_from l n (both_true (eqb x 0) (all_zero l) h).1

module _ (least most used : ℕ) (f : Fifo) where
  pub record FifoRanges : Type 0 where
    pub at_least : least ≤ f.level
    pub at_most : f.level ≤ most
    pub used_bits : f.used_bits ≤ used
    pub size : length f.bytes ≡ fifo_size
    pub clear : all_zero (drop f.level f.bytes) ≡ true

  pub fifo_ranges : fifo_inside least most used f ≡ true → FifoRanges
  fifo_ranges h =
      let r = all_true (leb least f.level ∷ leb f.level most ∷ leb f.used_bits used ∷ clear_from f.level f.bytes ∷ []) h in
      let z = both_true (eqb (length f.bytes) fifo_size) (all_zero (drop f.level f.bytes)) r.1.1.1.0 in
      record {
        at_least = leb-true _ _ r.0;
        at_most = leb-true _ _ r.1.0;
        used_bits = leb-true _ _ r.1.1.0;
        size = eqb-true _ _ z.0;
        clear = z.1;
      }

  pub fifo_in_range : FifoRanges → fifo_inside least most used f ≡ true
  fifo_in_range r =
      rw (le-leb least f.level r.at_least, le-leb f.level most r.at_most, le-leb f.used_bits used r.used_bits)
      (rw (eq-eqb (length f.bytes) fifo_size r.size) r.clear)
