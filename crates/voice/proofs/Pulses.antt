-- Fault 9 of a voice file without faults 5 and 6: the pulses do not end with the file.
-- Assumes nothing.
use mathlib.Core.Path.{◌≡◌, refl}
use mathlib.Core.Bool.{Bool, true, false, not, or-true}
use mathlib.Core.List.{List}
use Prim.Native.Nat.{ℕ, ◌+◌, ◌≤◌}
use native.Mathlib.Omega.{arith}
use borrow.Author.Tests.{not-false, eqb-true, eqb-false, ltb-false, eq-eqb, ne_eqb, le-ltb}
use lib.Dec.{eqb, ltb}
use lib.ListN.{length}
use Rattle.base.proofs.Booleans.{neither}
use Rattle.voice.specs.Layout.{length_with, length_field, pulse_start, pulse_count}
use Rattle.voice.specs.Check.{pulse_limit, pulse_fault}
use Rattle.voice.specs.Valid.{PulsesEndFile}

pub pulses_end_file : (P : ℕ) (file : List ℕ) → PulsesEndFile P file
pulses_end_file P file s l =
    let sizes = neither (ltb (length file) (pulse_start P + 1)) (ltb (pulse_start P + pulse_limit) (length file)) s in
    go (eqb (pulse_start P + pulse_count P file) (length file)) refl (ltb-false _ _ sizes.0) (ltb-false _ _ sizes.1)
    (eqb-true _ _ (not-false _ l))
  where
    go : (b : Bool) → eqb (pulse_start P + pulse_count P file) (length file) ≡ b → pulse_start P + 1 ≤ length file
        → length file ≤ pulse_start P + pulse_limit → length_field file + 2 ≡ length file → pulse_fault P file ≡ not b
    go true e least most field =
        let end = eqb-true (pulse_start P + pulse_count P file) (length file) e in
        rw (
          ne_eqb (pulse_count P file) 0 (λ z. omega arith),
          le-ltb pulse_limit (pulse_count P file) (omega arith),
          eq-eqb (length_field file) (length_with P (pulse_count P file)) (omega arith),
        )
    go false e least most field =
        let end = eqb-false (pulse_start P + pulse_count P file) (length file) e in
        rw (ne_eqb (length_field file) (length_with P (pulse_count P file)) (λ z. end (omega arith)), or-true)
