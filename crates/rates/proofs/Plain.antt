-- Frames without a prefix as items of the plain form: the laws are in rom.
pub use Rattle.rom.proofs.Plain.{plain_read, plain_bits, plain_ended, plain_from, plain_there}
