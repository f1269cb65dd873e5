-- Each look-up in a voice file without a fault is in its range.
-- Assumes nothing.
use mathlib.Core.Path.{◌≡◌}
use mathlib.Core.Bool.{Bool, true}
use mathlib.Core.List.{List, [], ◌∷◌}
use Prim.Native.Nat.{ℕ, ◌+◌, ◌<◌}
use native.Mathlib.Omega.{arith}
use borrow.Author.Tests.{not-false}
use lib.Dec.{ltb}
use Rattle.base.specs.Range.{Between}
use Rattle.base.proofs.Faults.{none_applies}
use Rattle.base.proofs.Booleans.{conj, AllTrue, all_true, by_test}
use Rattle.base.proofs.Range.{signed, tested}
use Rattle.voice.specs.Layout.{k_counts, k_begin, entries, entry_at, pulse_count, pulse_at}
use Rattle.voice.specs.Check.{entry_valid, table_valid, voice_faults, voice_fault}
use Rattle.voice.specs.Valid.{InRange}
use Rattle.voice.specs.declared.layout.Table.{Table}
use Rattle.voice.specs.declared.layout.Table.TheVariants.{Energy, Pitch, K}
use Rattle.voice.proofs.Entries.{each_valid, unsigned_most}
use Rattle.voice.proofs.Places.{k_place}
use Rattle.voice.proofs.Signed.{signed_range}

-- a pulse is a signed byte, in any file
pub pulse_range : (P : ℕ) (file : List ℕ) (place : ℕ) → Between 128 127 (pulse_at P file place)
unfolding pulse_at
pulse_range P file place =
    by_test (Between 128 127) (ltb place (pulse_count P file)) (λ within. signed_range 127 _) (λ past. omega arith)

module _ (P v : ℕ) (file : List ℕ) (valid : voice_fault P v file ≡ 0) where
  -- the tests of its tables
  abbrev tests : List Bool
  tests = table_valid P file Energy ∷ table_valid P file Pitch ∷ table_valid P file K ∷ []

  -- no fault applies, and so not that of the values
  tables_valid : AllTrue tests
  unfolding voice_fault
  tables_valid =
      let none = none_applies (voice_faults P v file) tt valid in
      all_true tests (not-false (conj tests) (search (none)))

  table_valid_lem : (t : Table) → table_valid P file t ≡ true
  table_valid_lem Energy = tables_valid.0
  table_valid_lem Pitch = tables_valid.1.0
  table_valid_lem K = tables_valid.1.1.0

  entry_valid_lem : (t : Table) (i : ℕ) → i < entries P t → entry_valid t i (entry_at P file t i) ≡ true
  entry_valid_lem t i h = each_valid P file t (entries P t) (table_valid_lem t) i h

  -- a valid file is in range
  pub valid_in_range : InRange P file
  valid_in_range = record {
    energy = λ i h. signed (unsigned_most 0 i _ (entry_valid_lem Energy i h));
    pitch = λ i h. signed (unsigned_most 1 i _ (entry_valid_lem Pitch i h));
    k = λ n i h. tested 512 511 _ (entry_valid_lem K (k_begin n + i) (k_place k_counts n i h));
    pulse = pulse_range P file;
  }
