-- The declared types of the source, by short names.
pub use Rattle.reports.specs.declared.Report.{Report}
pub use Rattle.reports.specs.declared.Report.TheVariants.{Nothing as NoReport, Frame as FrameReport, Stop as StopReport, RanOut}
pub use Rattle.reports.specs.declared.Details.{Details}
pub use Rattle.reports.specs.declared.Action.{Action}
pub use Rattle.reports.specs.declared.Action.TheVariants.{Silent, Rest, Begin, Interpolate, Continue}
