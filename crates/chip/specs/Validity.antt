-- State ranges (01): 4 STATE is given where one of these conditions fails.
use Rattle.std.specs.Prelude.{Bool, ◌&&◌, ◌||◌}
use Rattle.sound.specs.State.{sound_valid, at_rest}
use Rattle.control.specs.Validity.{control_valid}
use Rattle.chip.specs.Types.{Chip}

-- a valid chip: the control's and the sound's ranges; not sounding, the sound is at rest
unfoldable pub valid : Chip → Bool
valid c = control_valid c.control && sound_valid c.sound && (c.control.clock.sounding || at_rest c.sound)
