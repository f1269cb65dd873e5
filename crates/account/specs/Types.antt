-- The declared types of the crates below, by short names.
pub use Rattle.rom.specs.declared.frames.Frame.{Frame}
pub use Rattle.rom.specs.declared.frames.Frame.TheVariants.{Silence, Stop, Repeat, Unvoiced, Voiced}
pub use Rattle.fifo.specs.declared.BitOrder.{BitOrder}
pub use Rattle.fifo.specs.declared.BitOrder.TheVariants.{LeastFirst, MostFirst}
pub use Rattle.fifo.specs.declared.Fifo.{Fifo}
pub use Rattle.reports.specs.declared.Details.{Details}
pub use Rattle.reports.specs.declared.Report.{Report}
pub use Rattle.reports.specs.declared.Report.TheVariants.{Nothing as NoReport, Frame as FrameReport, Stop as StopReport, RanOut}
pub use Rattle.control.specs.declared.device.Device.{Device}
pub use Rattle.control.specs.declared.state.Mode.{Mode}
pub use Rattle.control.specs.declared.state.Mode.TheVariants.{Idle, Rom, Waiting, External}
pub use Rattle.control.specs.declared.state.Control.{Control}
pub use Rattle.control.specs.declared.commands.Command.{Command}
pub use Rattle.control.specs.declared.commands.Command.TheVariants.{LoadFrameRate, ReadByte, ReadAndBranch, LoadAddress, Speak, SpeakExternal, Reset}
pub use Rattle.chip.specs.declared.state.Chip.{Chip}
pub use Rattle.chip.specs.Types.{Stepped}
