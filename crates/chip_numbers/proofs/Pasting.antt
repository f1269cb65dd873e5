-- The parts of a chip put one after another.
-- Assumes nothing.
use mathlib.Core.Path.{◌≡◌, sym, ap, ◌∙◌}
use mathlib.Core.List.{List, ◌++◌, map, append_assoc}
use Prim.Native.Nat.{ℕ, ◌+◌}
use native.Mathlib.Omega.{arith}
use lib.IntN.{ℤ}
use lib.ListN.{length, length-append}
use lib.Seq.{take_all}
use Rattle.std.proofs.lemmas.List.{map-id}
use Rattle.chip_numbers.specs.Fields.{control_numbers, numbers_by}
use Rattle.chip_numbers.specs.Types.{Chip}
use Rattle.chip_numbers.specs.Chips.{chip_length}
use Rattle.chip_numbers.specs.Putting.{Put}
use Rattle.chip_numbers.proofs.Places.{bytes, clock, current, target, later}

-- a part, and another behind it
put_both : {a b c : List ℤ} {j k : ℕ} (p q : List ℤ) → Put a 0 p j b → Put b j q k c → Put a 0 (p ++ q) k c
put_both p q x y = record {
  whole = y.whole;
  fills = omega (arith, length-append p q, x.fills, y.fills);
  is = y.is ∙ ap (λ (r : List ℤ). r ++ q) x.is;
}

module _ (w : ℕ → ℤ) (c : Chip) (sixteen : length c.control.fifo.bytes ≡ 16) (ten : length c.sound.memory ≡ 10) where
  pub put_chip : {n0 n1 n2 n3 n4 n5 n6 n7 : List ℤ} → Put n0 0 (map w (control_numbers c.control)) 8 n1
      → Put n1 8 (bytes w c) (8 + length c.control.fifo.bytes) n2 → Put n2 24 (clock w c) 29 n3 → Put n3 29 (current w c) 41 n4
      → Put n4 41 (target w c) 53 n5 → Put n5 53 (map (λ z. z) c.sound.memory) (53 + length c.sound.memory) n6 → Put n6 63 (later w c) chip_length n7
      → n7 ≡ numbers_by w c
  unfolding numbers_by
  put_chip {n7 = n7} p q r s t u v =
      let held = rw sixteen at q in
      let memory = rw (map-id c.sound.memory, ten) at u in
      let all = put_both _ _ (put_both _ _ (put_both _ _ (put_both _ _ (put_both _ _ (put_both _ _ p held) r) s) t) memory) v in
      sym (take_all chip_length n7 (omega (arith, all.whole))) ∙ all.is ∙ simp append_assoc
