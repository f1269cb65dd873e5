-- The declared types of the chip, by short names.
pub use Rattle.sound.specs.declared.params.Params.{Params}
pub use Rattle.sound.specs.declared.state.Sound.{Sound}
pub use Rattle.rates.specs.declared.rate.FrameRate.{FrameRate}
pub use Rattle.control.specs.declared.device.Device.{Device}
pub use Rattle.control.specs.declared.device.Device.TheVariants.{Tms5220, Tms5220C}
pub use Rattle.control.specs.declared.state.Mode.{Mode}
pub use Rattle.control.specs.declared.state.Mode.TheVariants.{Idle, Rom, Waiting, External}
pub use Rattle.address.specs.declared.AddressRegister.{AddressRegister}
pub use Rattle.fifo.specs.declared.BitOrder.{BitOrder}
pub use Rattle.fifo.specs.declared.BitOrder.TheVariants.{LeastFirst, MostFirst}
pub use Rattle.fifo.specs.declared.Fifo.{Fifo}
pub use Rattle.control.specs.declared.state.Port.{Port}
pub use Rattle.clock.specs.declared.Clock.{Clock}
pub use Rattle.control.specs.declared.state.Control.{Control}
pub use Rattle.chip.specs.declared.state.Chip.{Chip}
