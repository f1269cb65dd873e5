-- Whether a chip sounds, and the counters of samples and intervals (01, "Sound", "State ranges").
use Rattle.std.specs.Prelude.{Bool, true, false, not, cond, ◌&&◌, ◌||◌, ℕ, ◌-◌, eqb, leb}
use Rattle.base.specs.Units.{samples, intervals, samples_per_interval, whole_intervals, within_interval, within_frame, samples_sum, intervals_sum}
use Rattle.base.specs.declared.units.Intervals.{Intervals}
use Rattle.base.specs.declared.units.Samples.{Samples}
use Rattle.clock.specs.declared.Clock.{Clock}

-- the counters of a silent chip
abbrev pub stopped : Clock → Clock
stopped t = record { sounding = false; sample = samples 0; interval = intervals 0 }

-- and of one that starts to sound
abbrev pub started : Clock → Clock
started t = record { sounding = true; sample = samples 0; interval = intervals 0 }

-- the counters where a frame begins at an interval, and so skips those before it
abbrev pub begun : Intervals → Clock → Clock
begun i t = record { sounding = t.sounding; sample = t.sample; interval = i }

-- power-up: silent
abbrev pub power_up_clock : Clock
power_up_clock = record { sounding = false; sample = samples 0; interval = intervals 0 }

-- count on by n samples: 25 samples make an interval, 8 intervals a frame
abbrev pub counted_by : ℕ → Clock → Clock
counted_by n t =
    let next : Samples = samples_sum t.sample (samples n) in
    record {
      sounding = t.sounding;
      sample = within_interval next;
      interval = within_frame (intervals_sum t.interval (whole_intervals next));
    }

-- by one
abbrev pub counted : Clock → Clock
counted t = counted_by 1 t

-- an interval's first sample
abbrev pub interval_begins : Clock → Bool
interval_begins t = eqb t.sample.0 0

-- a frame boundary: the first sample of interval 0
abbrev pub frame_begins : Clock → Bool
frame_begins t = interval_begins t && eqb t.interval.0 0

-- the samples left of an interval in which one has been made, none where the next is an interval's first
abbrev pub left_of_interval : Clock → ℕ
left_of_interval t = cond (interval_begins t) 0 (samples_per_interval - t.sample.0)

-- sample 0..24
abbrev pub last_sample : ℕ
last_sample = 24

-- interval 0..7
abbrev pub last_interval : ℕ
last_interval = 7

-- the ranges of the counters. Not sounding: both 0, and no speaking mode
abbrev pub clock_valid : Bool → Clock → Bool
clock_valid speaks t =
    leb t.sample.0 last_sample && leb t.interval.0 last_interval && (t.sounding || (frame_begins t && not speaks))
