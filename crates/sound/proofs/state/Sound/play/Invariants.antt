-- The sound with memory, noise and pulse place renewed is the one after as many samples as the buffer has so far.
use lib.ListN.{length}
use Rattle.base.proofs.Steps.{Filled}
use Rattle.sound.specs.Sample.{renewed, sound_step}
use Rattle.sound.proofs.Validity.{SoundRanges}
use Rattle.sound.proofs.state.Sound.play.Given as goal

abbrev pub invariant-loop-value : goal.invariant-loop-value
invariant-loop-value l =
    Filled (sound_step l.pitch_bits l.file) SoundRanges l.self (length l.initial.value-items) l.value-items (renewed l.memory l.noise l.pulse l.self) l.value-index
