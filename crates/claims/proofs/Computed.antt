-- The cases marked P, those of the TMS5220C and those of a branch hold, by computation.
-- Assumes nothing.
use mathlib.Core.Path.{refl}
use Rattle.rom.specs.Bits.{bit, field, digits}
use Rattle.rom.specs.Reader.{decoded, frame_from}
use Rattle.rom.specs.Items.{items_from}
use Rattle.rom.specs.Phrases.{walk_of}
use Rattle.rates.specs.Walks.{rated_walk_of}
use Rattle.sound.specs.State.{sound_valid, at_rest}
use Rattle.sound.specs.Noise.{noise_bit, next_noise}
use Rattle.control.specs.Validity.{control_valid}
use Rattle.bus.specs.Accept.{accepted}
use Rattle.speech.specs.Advance.{advanced_from}
use Rattle.chip.specs.Validity.{valid}
use Rattle.chip.specs.Step.{step_taken}
use Rattle.chip.specs.Write.{command_fault, write_of}
use Rattle.claims.specs.Cases.{cases, CasesHold}
use Rattle.claims.specs.CasesRated.{rated_cases, RatedCasesHold}
use Rattle.claims.specs.CasesBusy.{busy_cases, BusyCasesHold}

pub cases_hold : CasesHold
unfolding cases walk_of items_from frame_from decoded field bit digits write_of command_fault accepted valid control_valid sound_valid at_rest next_noise noise_bit
cases_hold = refl

pub rated_cases_hold : RatedCasesHold
unfolding rated_cases rated_walk_of items_from frame_from decoded field bit digits write_of command_fault accepted valid control_valid sound_valid at_rest
rated_cases_hold = refl

pub busy_cases_hold : BusyCasesHold
unfolding busy_cases field bit write_of command_fault accepted valid control_valid sound_valid at_rest step_taken advanced_from
busy_cases_hold = refl
