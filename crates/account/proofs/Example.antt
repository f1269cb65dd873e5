-- The examples, computed.
-- Assumes nothing.
use mathlib.Core.Path.{refl}
use Rattle.rom.specs.Bits.{bit, field, digits}
use Rattle.rom.specs.Reader.{decoded, frame_from}
use Rattle.fifo.specs.Buffer.{reversed}
use Rattle.voice.specs.Example.{voice}
use Rattle.voice.specs.Layout.{twos_complement}
use Rattle.voice.specs.Check.{entries_valid, voice_fault}
use Rattle.sound.specs.State.{sound_valid, at_rest}
use Rattle.control.specs.Validity.{control_valid}
use Rattle.bus.specs.Accept.{accepted}
use Rattle.speech.specs.Advance.{advanced_from}
use Rattle.chip.specs.Validity.{valid}
use Rattle.chip.specs.Write.{command_fault, write_of}
use Rattle.chip.specs.Read.{look_of, acknowledge_of, read_of}
use Rattle.chip.specs.Step.{step_taken, step_fault, step_of}
use Rattle.account.specs.Example.{least_first, rate_bits, ExampleHolds}

pub least_first_holds : ExampleHolds least_first
unfolding voice bit field digits decoded frame_from reversed twos_complement entries_valid voice_fault sound_valid at_rest control_valid accepted advanced_from valid command_fault write_of look_of acknowledge_of read_of step_taken step_fault step_of
least_first_holds = record { told = refl; taken = refl; given = refl; thrown = refl; held = refl }

pub rate_bits_hold : ExampleHolds rate_bits
unfolding voice bit field digits decoded frame_from reversed twos_complement entries_valid voice_fault sound_valid at_rest control_valid accepted advanced_from valid command_fault write_of look_of acknowledge_of read_of step_taken step_fault step_of
rate_bits_hold = record { told = refl; taken = refl; given = refl; thrown = refl; held = refl }
