-- What a valid clock's counters are, from the tests.
-- Assumes nothing.
use mathlib.Core.Path.{◌≡◌}
use mathlib.Core.Bool.{Bool, true, not, ◌&&◌, ◌||◌}
use mathlib.Core.List.{[], ◌∷◌}
use Prim.Native.Nat.{◌≤◌}
use borrow.Author.Tests.{leb-true}
use lib.Dec.{leb}
use Rattle.base.proofs.Booleans.{all_true}
use Rattle.clock.specs.Counters.{last_sample, last_interval, frame_begins, clock_valid}
use Rattle.clock.specs.declared.Clock.{Clock}

pub clock_ranges : (speaks : Bool) (t : Clock) → clock_valid speaks t ≡ true → (t.sample.0 ≤ last_sample) × (t.interval.0 ≤ last_interval)
clock_ranges speaks t h =
    let r = all_true (leb t.sample.0 last_sample ∷ leb t.interval.0 last_interval ∷ (t.sounding || (frame_begins t && not speaks)) ∷ []) h in
    (leb-true _ _ r.0, leb-true _ _ r.1.0)
