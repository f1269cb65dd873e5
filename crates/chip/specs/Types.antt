-- The declared types of the source and of the crates below it, by short names, and what each call returns.
use Rattle.std.specs.Prelude.{ℕ, ℤ}
use Rattle.reports.specs.declared.Details.{Details}
pub use Rattle.clock.specs.declared.Clock.{Clock}
pub use Rattle.fifo.specs.declared.BitOrder.{BitOrder}
pub use Rattle.fifo.specs.declared.BitOrder.TheVariants.{LeastFirst, MostFirst}
pub use Rattle.reports.specs.declared.Action.{Action}
pub use Rattle.reports.specs.declared.Action.TheVariants.{Silent, Rest, Begin, Interpolate, Continue}
pub use Rattle.reports.specs.declared.Report.{Report}
pub use Rattle.reports.specs.declared.Report.TheVariants.{Nothing as NoReport}
pub use Rattle.control.specs.declared.device.Device.{Device}
pub use Rattle.control.specs.declared.device.Device.TheVariants.{Tms5220, Tms5220C}
pub use Rattle.control.specs.declared.state.Mode.{Mode}
pub use Rattle.control.specs.declared.state.Port.{Port}
pub use Rattle.control.specs.declared.state.Control.{Control}
pub use Rattle.control.specs.declared.commands.Command.{Command}
pub use Rattle.bus.specs.declared.commands.Accepted.{Accepted}
pub use Rattle.speech.specs.declared.advance.Moved.{Moved}
pub use Rattle.chip.specs.declared.state.Chip.{Chip}
pub use Rattle.chip.specs.declared.state.DeviceNumbers.{DeviceNumbers}
pub use Rattle.chip.specs.declared.read.BusRead.{BusRead}
pub use Rattle.chip.specs.declared.step.SampleStep.{SampleStep}

-- What each call returns: the next chip and the refusal number, and what the call gives besides.
-- a byte written
pub record Written : Type 0 where
  pub chip : Chip
  pub refusal : ℕ

-- an acknowledge
pub record Acknowledged : Type 0 where
  pub chip : Chip
  pub refusal : ℕ

-- a look or a read, with the byte that the bus gets
pub record ByteRead : Type 0 where
  pub chip : Chip
  pub refusal : ℕ
  pub byte : ℕ

-- a sample step, with the sample, what it reports, and what it gives besides
pub record Stepped : Type 0 where
  pub chip : Chip
  pub refusal : ℕ
  pub sample : ℤ
  pub report : Report
  pub details : Details

-- a run
pub record Ran : Type 0 where
  pub chip : Chip
  pub refusal : ℕ
