-- What a sample step gives, and speech from ROM.
use Rattle.std.specs.Prelude.{Bool, ℕ}
pub use Rattle.clock.specs.declared.Clock.{Clock}
pub use Rattle.reports.specs.declared.Report.{Report}
pub use Rattle.reports.specs.declared.Report.TheVariants.{Nothing as NoReport, Frame as FrameReport, Stop as StopReport, RanOut}

-- what a step gives: its report, and the rate bits of the frame that it reports
pub record Told : Type 0 where
  pub report : Report
  pub rate : ℕ

-- a report of a frame with these rate bits
abbrev pub tells_rated : ℕ → Report → Told
tells_rated q r = record { report = r; rate = q }

-- a report without any
abbrev pub tells : Report → Told
tells = tells_rated 0

-- all of a device that speaks from ROM on which the schedule depends
pub record Speech : Type 0 where
  pub talking : Bool
  pub position : ℕ
  pub clock : Clock

-- the speech after a step, and what the step gives
pub record Spoken : Type 0 where
  pub speech : Speech
  pub told : Told
