-- Each call's entries are in order, from the bits held before it to those held after it.
-- Assumes nothing.
use mathlib.Core.Path.{◌≡◌, refl, sym, subst}
use mathlib.Core.Bool.{Bool, true, false, cond}
use mathlib.Core.List.{List, [], ◌∷◌, ◌++◌}
use Prim.Native.Nat.{ℕ, zero, suc}
use borrow.Author.Tests.{eqb-true, eqb-false}
use lib.Dec.{eqb}
use Rattle.base.specs.Refusals.{TAKEN}
use Rattle.base.specs.Steps.{state_after}
use Rattle.base.proofs.Booleans.{by_test}
use Rattle.control.specs.Validity.{control_valid}
use Rattle.fifo.specs.Buffer.{held_bits}
use Rattle.control.proofs.Ranges.{control_in_ranges}
use Rattle.chip.specs.Validity.{valid}
use Rattle.chip.specs.Write.{write_fault, write_of}
use Rattle.chip.specs.Read.{look_of, acknowledge_of, read_of}
use Rattle.chip.specs.Step.{step_taken, step_fault, step_of}
use Rattle.chip.specs.Run.{sample_step, run_of}
use Rattle.chip.proofs.Ranges.{chip_ranges}
use Rattle.chip.proofs.BusCalls.{found, look_keeps}
use Rattle.chip.proofs.KeptValid.{write_keeps_valid, acknowledge_keeps_valid, read_keeps_valid, step_keeps_valid, run_keeps_valid}
use Rattle.account.specs.Types.{Chip}
use Rattle.account.specs.Entries.{Call, write, read, look, acknowledge, step, run, chip_after, last_chip, Entry, wrote, looked, step_entry, step_entries, run_entries, entries_of, history, Reading, next, byte_bits}
use Rattle.account.specs.Order.{Goes, buffered, commanded, not_written, moved, refused_step, unmoved, InOrder, done, then}
use Rattle.account.specs.Laws.{reading_of}
use Rattle.account.proofs.Bytes.{bytes_in}
use Rattle.account.proofs.Steps.{fifo_moves}

-- what the history should tell of a chip, and the bits that it holds
abbrev reading : Chip → Reading
reading c = reading_of c.control

abbrev queue : Chip → List ℕ
queue c = held_bits c.control.fifo

-- what an entry tells, after the reading t and the bits waiting q, is what the chip has
record Told (t : Reading) (q : List ℕ) (e : Entry) (c : Chip) : Type 0 where
  goes : Goes t q e (queue c)
  reads : reading c ≡ next t e

valid_control : (c : Chip) → valid c ≡ true → control_valid c.control ≡ true
valid_control c v = control_in_ranges _ (chip_ranges c v).control

-- ---- a byte

-- where its bits go
byte_goes : (t : Reading) (q : List ℕ) (b : ℕ) → Goes t q (wrote b TAKEN) (cond t.external (q ++ byte_bits t b) q)
byte_goes t q b = by_test (Goes t q (wrote b TAKEN)) t.external buffered commanded

told_write : (image : List ℕ) (c : Chip) (b : ℕ) → valid c ≡ true → Told (reading c) (queue c) (wrote b (write_of image c b).refusal) (write_of image c b).chip
unfolding write_of
told_write image c b v = go (eqb (write_fault image c b) 0) refl
  where
    go : (t : Bool) → eqb (write_fault image c b) 0 ≡ t → Told (reading c) (queue c) (wrote b (write_of image c b).refusal) (write_of image c b).chip
    go true t =
        let m = bytes_in image c.control b (valid_control c v) (found image c b (eqb-true _ _ t)).no_wait in
        rw t (record { goes = subst (Goes (reading c) (queue c) (wrote b TAKEN)) (sym m.bits) (byte_goes (reading c) (queue c) b); reads = m.reading })
    go false t = rw t (record { goes = not_written (eqb-false _ _ t); reads = rw t })

-- ---- a step

told_step : (image voice : List ℕ) (c : Chip) → valid c ≡ true → Told (reading c) (queue c) (step_entry (step_of image voice c)) (step_of image voice c).chip
unfolding step_of step_taken
told_step image voice c v = go (eqb (step_fault image voice c) 0) refl
  where
    go : (t : Bool) → eqb (step_fault image voice c) 0 ≡ t → Told (reading c) (queue c) (step_entry (step_of image voice c)) (step_of image voice c).chip
    go true t = let m = fifo_moves image c.control (valid_control c v) in rw t (record { goes = moved m.bits; reads = m.reading })
    go false t = rw t (record { goes = refused_step (eqb-false _ _ t); reads = refl })

-- ---- a look, an acknowledge and a read

told_look : (c : Chip) → Told (reading c) (queue c) looked (look_of c).chip
told_look c = rw (look_keeps c) (record { goes = unmoved; reads = refl })

told_acknowledge : (c : Chip) → valid c ≡ true → Told (reading c) (queue c) looked (acknowledge_of c).chip
unfolding acknowledge_of
told_acknowledge c v = rw v (record { goes = unmoved; reads = refl })

told_read : (c : Chip) → valid c ≡ true → Told (reading c) (queue c) looked (read_of c).chip
unfolding read_of
told_read c v = rw (look_keeps c) (told_acknowledge c v)

-- ---- the entries of calls

-- the entries from a chip on, to the bits that are left
abbrev From : Chip → List Entry → List ℕ → Type 0
From c es left = InOrder (reading c) (queue c) es left

first : {t : Reading} {q left : List ℕ} {e : Entry} {es : List Entry} {d : Chip} → Told t q e d → From d es left → InOrder t q (e ∷ es) left
first {left = left} {es = es} {d = d} told rest = then told.goes (subst (λ (t : Reading). InOrder t (queue d) es left) told.reads rest)

module _ (image voice : List ℕ) where
  steps_in_order : (n : ℕ) (c : Chip) → valid c ≡ true → (es : List Entry) (left : List ℕ)
      → From (state_after (sample_step image voice) n c) es left → From c (step_entries image voice n c ++ es) left
  steps_in_order zero c v es left rest = rest
  steps_in_order (suc n) c v es left rest =
      first (told_step image voice c v) (steps_in_order n _ (step_keeps_valid image voice c v) es left rest)

  run_in_order : (n : ℕ) (c : Chip) → valid c ≡ true → (es : List Entry) (left : List ℕ) → From (run_of image voice c n).chip es left
      → From c (run_entries image voice n c (run_of image voice c n).refusal ++ es) left
  unfolding run_of
  run_in_order n c v es left rest = go (eqb (step_fault image voice c) 0) refl
    where
      go : (t : Bool) → eqb (step_fault image voice c) 0 ≡ t → From c (run_entries image voice n c (run_of image voice c n).refusal ++ es) left
      go true t = rw t (steps_in_order n c v es left (rw t at rest))
      go false t = rw (t, t) (first {d = c} (record { goes = refused_step (eqb-false _ _ t); reads = refl }) (rw t at rest))

call_in_order : (c : Chip) (x : Call) → valid c ≡ true → (es : List Entry) (left : List ℕ) → From (chip_after c x) es left
    → From c (entries_of c x ++ es) left
call_in_order c (write image b) v es left rest = first (told_write image c b v) rest
call_in_order c read v es left rest = first (told_read c v) rest
call_in_order c look v es left rest = first (told_look c) rest
call_in_order c acknowledge v es left rest = first (told_acknowledge c v) rest
call_in_order c (step image voice) v es left rest = first (told_step image voice c v) rest
call_in_order c (run image voice n) v es left rest = run_in_order image voice n c v es left rest

call_keeps_valid : (c : Chip) (x : Call) → valid c ≡ true → valid (chip_after c x) ≡ true
call_keeps_valid c (write image b) v = write_keeps_valid image c b v
call_keeps_valid c read v = read_keeps_valid c v
call_keeps_valid c look v = rw (look_keeps c) v
call_keeps_valid c acknowledge v = acknowledge_keeps_valid c v
call_keeps_valid c (step image voice) v = step_keeps_valid image voice c v
call_keeps_valid c (run image voice n) v = run_keeps_valid image voice c n v

pub calls_in_order : (xs : List Call) (c : Chip) → valid c ≡ true
    → (valid (last_chip c xs) ≡ true) × InOrder (reading_of c.control) (held_bits c.control.fifo) (history c xs) (held_bits (last_chip c xs).control.fifo)
calls_in_order [] c v = (v, done)
calls_in_order (x ∷ xs) c v =
    let r = calls_in_order xs (chip_after c x) (call_keeps_valid c x v) in
    (r.0, call_in_order c x v _ _ r.1)
