-- The units of time and the ways between them (01, "The module"; 004, section 2).
use Rattle.std.specs.Prelude.{ℕ, ◌+◌, ◌*◌, ◌-◌, ◌/◌, ◌%◌}
use Rattle.base.specs.declared.units.Frames.{Frames}
use Rattle.base.specs.declared.units.Intervals.{Intervals}
use Rattle.base.specs.declared.units.Samples.{Samples}

-- n frames
abbrev pub frames : ℕ → Frames
frames n = record { 0 = n }

-- n intervals
abbrev pub intervals : ℕ → Intervals
intervals n = record { 0 = n }

-- n samples
abbrev pub samples : ℕ → Samples
samples n = record { 0 = n }

-- 8 intervals make a frame
abbrev pub intervals_per_frame : ℕ
intervals_per_frame = 8

-- 25 samples make an interval
abbrev pub samples_per_interval : ℕ
samples_per_interval = 25

-- the intervals of frames
abbrev pub intervals_of : Frames → Intervals
intervals_of f = intervals (intervals_per_frame * f.0)

-- the samples of intervals
abbrev pub samples_of : Intervals → Samples
samples_of i = samples (samples_per_interval * i.0)

-- the whole intervals in some samples
abbrev pub whole_intervals : Samples → Intervals
whole_intervals s = intervals (s.0 / samples_per_interval)

-- and the samples left without them
abbrev pub within_interval : Samples → Samples
within_interval s = samples (s.0 % samples_per_interval)

-- the intervals left of some without whole frames
abbrev pub within_frame : Intervals → Intervals
within_frame i = intervals (i.0 % intervals_per_frame)

-- sums, of one unit each
abbrev pub samples_sum : Samples → Samples → Samples
samples_sum s t = samples (s.0 + t.0)

-- of intervals
abbrev pub intervals_sum : Intervals → Intervals → Intervals
intervals_sum i j = intervals (i.0 + j.0)

-- some samples without others, not below 0
abbrev pub samples_less : Samples → Samples → Samples
samples_less s t = samples (s.0 - t.0)
