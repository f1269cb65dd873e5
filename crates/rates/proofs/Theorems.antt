-- The theorems of the walk told a rate, which are those of a walk over any items.
-- Assumes nothing.
use mathlib.Core.Path.{◌≡◌, refl}
use mathlib.Core.Bool.{Bool, true, not}
use mathlib.Core.List.{List, [], ◌∷◌}
use Prim.Native.Nat.{ℕ, ◌+◌, ◌*◌, ◌<◌}
use native.Mathlib.Omega.{arith}
use borrow.Author.Tests.{lt-leb, leb-false, not-false}
use lib.Dec.{leb}
use lib.ListN.{length}
use Rattle.base.specs.Refusals.{IMAGE, STATE, BEYOND}
use Rattle.base.proofs.Faults.{NoneApplies}
use Rattle.rom.specs.Bits.{image_valid}
use Rattle.rom.specs.Items.{bits_all, sum_of}
use Rattle.rom.specs.Phrases.{Walked}
use Rattle.base.specs.declared.refusal.Shortfall.{Shortfall}
use Rattle.rom.proofs.ItemLaws.{there_read}
use Rattle.rom.proofs.ItemWalk as walk
use Rattle.rom.proofs.Prefixed.{prefixed_law, prefixed_unique}
use Rattle.rates.specs.Rates.{rate_valid, prefix_bits}
use Rattle.rates.specs.Form.{rate_form, Item, item_code, short_at, kept_intervals}
use Rattle.rates.specs.Walks.{rated_accepted, rated_walk_of}
use Rattle.rates.specs.Theorems.{RatedPhraseAt, RatedAccepts, RatedCounts, RatedRefuses, RatedUnique, RatedThere}
use Rattle.rates.specs.declared.rate.FrameRate.{FrameRate}

module _ (P : ℕ) (r : FrameRate) (s : List ℕ) (a : ℕ) where
  phrase_inside : {is : List Item} → RatedPhraseAt P r s a is → a < length s
  phrase_inside = walk.phrase_inside (item_code (rate_form r P)) s _ (prefixed_law (prefix_bits r) P s) a

  -- what an accepted walk returns, and the walk's faults
  abbrev accept : List Item → Walked
  accept is = rated_accepted (length (bits_all (item_code (rate_form r P)) is)) (length is) (sum_of (kept_intervals (rate_form r P)) is)

  -- how short the image is of the item after some items
  abbrev short : List Item → Shortfall
  short is = short_at (rate_form r P) s (8 * a + length (bits_all (item_code (rate_form r P)) is))

  abbrev faults : List (Bool × ℕ)
  faults = (not (image_valid s), IMAGE) ∷ (not (rate_valid r), STATE) ∷ (leb (length s) a, BEYOND) ∷ []

  none : image_valid s ≡ true → rate_valid r ≡ true → a < length s → NoneApplies faults
  none v w inside = (rw v, (rw w, (lt-leb (length s) a inside, tt)))

  inside : NoneApplies faults → a < length s
  inside n = leb-false _ _ n.1.1.0

pub rated_counts : RatedCounts
unfolding rated_walk_of
rated_counts P r s a is v w p =
    walk.counts (item_code (rate_form r P)) s _ (prefixed_law (prefix_bits r) P s) a (accept P r s a) (λ is. refl) (short P r s a) (faults P r s a) tt (inside P r s a)
    (none P r s a v w (phrase_inside P r s a p)) p

pub rated_accepts : RatedAccepts
unfolding rated_walk_of
rated_accepts P r s a =
    let h = walk.accepts (item_code (rate_form r P)) s _ (prefixed_law (prefix_bits r) P s) a (accept P r s a) (λ is. refl) (short P r s a) (faults P r s a) tt (inside P r s a) in (
      λ e. let t = h.0 e in (not-false _ t.0.0, not-false _ t.0.1.0, t.1),
      λ t. h.1 (none P r s a t.0 t.1 (phrase_inside P r s a t.2.1), t.2),
    )

pub rated_refuses : RatedRefuses
unfolding rated_walk_of
rated_refuses P r s a v w i n is t =
    walk.refuses (item_code (rate_form r P)) s _ (prefixed_law (prefix_bits r) P s) a (accept P r s a) (λ is. refl) (short P r s a) (faults P r s a) tt (inside P r s a)
    (none P r s a v w i) n t

pub rated_unique : RatedUnique
rated_unique P r = prefixed_unique (prefix_bits r) P

pub rated_there : RatedThere
rated_there P r s a is inside = there_read (item_code (rate_form r P)) s _ (prefixed_law (prefix_bits r) P s) (8 * a) (omega arith) is
