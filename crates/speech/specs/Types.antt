-- The declared types of the source and of the crates below it, by short names.
pub use Rattle.fifo.specs.declared.Fifo.{Fifo}
pub use Rattle.clock.specs.declared.Clock.{Clock}
pub use Rattle.reports.specs.declared.Report.{Report}
pub use Rattle.reports.specs.declared.Report.TheVariants.{Nothing as NoReport, RanOut}
pub use Rattle.reports.specs.declared.Details.{Details}
pub use Rattle.reports.specs.declared.Action.{Action}
pub use Rattle.reports.specs.declared.Action.TheVariants.{Silent, Rest, Begin, Interpolate, Continue}
pub use Rattle.control.specs.declared.state.Mode.{Mode}
pub use Rattle.control.specs.declared.state.Mode.TheVariants.{Idle, Rom, Waiting, External}
pub use Rattle.control.specs.declared.state.Port.{Port}
pub use Rattle.control.specs.declared.state.Control.{Control}
pub use Rattle.speech.specs.declared.advance.Moved.{Moved}
