-- How far a frame has come, by the clock. A frame that skips intervals starts late, so that 25 samples for each interval
-- counted, the samples counted and those left are the samples of a whole frame at every rate.
-- Assumes nothing.
use mathlib.Core.Path.{◌≡◌, refl}
use mathlib.Core.Bool.{true, false}
use Prim.Native.Nat.{ℕ, zero, suc, ◌+◌, ◌*◌, ◌<◌}
use native.Mathlib.Omega.{arith}
use borrow.Author.Tests.{eq-eqb, ne_eqb, eqb-true}
use lib.Dec.{eqb}
use Rattle.base.specs.Units.{frames, intervals, samples_per_interval, intervals_per_frame, intervals_of, samples_of}
use Rattle.base.proofs.Booleans.{either_way}
use Rattle.clock.specs.Counters.{started, begun, counted, frame_begins}
use Rattle.schedule.specs.Types.{Clock}

-- the samples of a whole frame
abbrev pub whole_frame : ℕ
whole_frame = (samples_of (intervals_of (frames 1))).0

-- n samples are left of a frame that sounds
pub data Left (t : Clock) : ℕ → Type 0 where
  -- none: a frame boundary
  none : t.sounding ≡ true → t.sample.0 ≡ 0 → t.interval.0 ≡ 0 → Left t 0
  -- some, and some are counted
  some : {l : ℕ} → t.sounding ≡ true → t.sample.0 < samples_per_interval → t.interval.0 < intervals_per_frame
      → 0 < t.interval.0 + t.sample.0 → samples_per_interval * t.interval.0 + t.sample.0 + suc l ≡ whole_frame → Left t (suc l)

module _ (t : Clock) where
  pub left_sounds : {l : ℕ} → Left t l → t.sounding ≡ true
  left_sounds (none o s i) = o
  left_sounds (some o s i p e) = o

  pub left_begins : Left t 0 → frame_begins t ≡ true
  left_begins (none o s i) = rw (eq-eqb t.sample.0 0 s, eq-eqb t.interval.0 0 i)

  pub left_within : {l : ℕ} → Left t (suc l) → frame_begins t ≡ false
  left_within (some o s i p e) =
      either_way (eqb t.sample.0 0) (λ z. rw (z, ne_eqb t.interval.0 0 (λ y. omega (arith, y, eqb-true t.sample.0 0 z)))) (λ z. rw z)

  -- one more is counted
  pub left_on : {l : ℕ} → Left t (suc l) → Left (counted t) l
  left_on {l = zero} (some o s i p e) =
      let last-sample : t.sample.0 + 1 ≡ samples_per_interval = omega arith in
      let last-interval : t.interval.0 + 1 ≡ intervals_per_frame = omega arith in
      none o (rw last-sample) (rw (last-sample, last-interval))
  left_on {l = suc l} (some o s i p e) = some {l = l} o (omega arith) (omega arith) (omega arith) (omega arith)

  -- the first sample of a frame that skips k intervals
  pub left_begun : (k l : ℕ) → k < intervals_per_frame → samples_per_interval * k + suc l ≡ whole_frame → Left t 0 → Left (counted (begun (intervals k) t)) l
  left_begun k zero h e (none o s i) = absurd (omega arith)
  left_begun k (suc l) h e (none o s i) = some {l = l} o (omega arith) (omega arith) (omega arith) (omega arith)

  pub left_started : Left (started t) 0
  left_started = none refl refl refl
