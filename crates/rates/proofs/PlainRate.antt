-- At v = 0, rr = 00 the walk, its part and the frame taken are those of frames without a rate.
-- Assumes nothing.
use mathlib.Core.Path.{◌≡◌, ap}
use mathlib.Core.List.{List}
use Prim.Native.Nat.{ℕ, ◌*◌}
use lib.Dec.{eqb, leb}
use lib.ListN.{length}
use Rattle.base.proofs.Booleans.{either_way}
use Rattle.rom.specs.Bits.{image_fault}
use Rattle.rom.specs.Reader.{frame_at, frame_taken_of}
use Rattle.rom.specs.Phrases.{frames_at, walk_of, part_of, phrase_of}
use Rattle.rom.specs.Phrases.{Walked}
use Rattle.rates.specs.Rates.{power_up_rate}
use Rattle.rates.specs.Walks.{rated_walk_of, rated_phrase_of, rated_taken_of}
use Rattle.rates.specs.Theorems.{RatedPlain}
use Rattle.rom.proofs.Plain.{unrated, plain_read, plain_from, plain_over, plain_answer, plain_rate}

module _ (P : ℕ) (s : List ℕ) (a : ℕ) where
  plain_walk : rated_walk_of P power_up_rate s a ≡ walk_of P s a
  unfolding rated_walk_of walk_of
  plain_walk = rw (plain_from P s (8 * length s) (8 * a), plain_over P s (8 * a) (frames_at P s a))

  plain_phrase : rated_phrase_of P power_up_rate s a ≡ phrase_of P s a
  unfolding rated_phrase_of phrase_of
  plain_phrase = ap (λ (w : Walked). part_of s a w.refusal w.bits) plain_walk

  plain_taken : unrated (rated_taken_of P 0 s a) ≡ frame_taken_of P s a
  unfolding rated_taken_of frame_taken_of
  plain_taken =
      rw (plain_read P s a)
      (either_way (eqb (image_fault s (leb (8 * length s) a)) 0) (λ e. rw e (plain_answer P (frame_at P s a))) (λ e. rw e))

  no_rate : (rated_taken_of P 0 s a).rate ≡ 0
  unfolding rated_taken_of
  no_rate =
      rw (plain_read P s a) (either_way (eqb (image_fault s (leb (8 * length s) a)) 0) (λ e. rw e (plain_rate P (frame_at P s a))) (λ e. rw e))

pub rated_plain : (P : ℕ) (s : List ℕ) (a : ℕ) → RatedPlain P s a
rated_plain P s a = record { walk = plain_walk P s a; phrase = plain_phrase P s a; taken = plain_taken P s a; rate = no_rate P s a }
