-- What is proved of a taken byte.
use Rattle.std.specs.Prelude.{◌≡◌, true, false, List, ℕ}
use Rattle.rom.specs.Bits.{image_valid}
use Rattle.control.specs.Device.{SameKind}
use Rattle.control.specs.Validity.{control_valid}
use Rattle.control.specs.Commands.{command_of, waits_now, beyond}
use Rattle.bus.specs.Types.{Control}
use Rattle.bus.specs.Accept.{accepted}

-- A valid control stays valid under every byte that is taken.
abbrev pub AcceptKeepsValid : Type 0
AcceptKeepsValid =
    (image : List ℕ) (k : Control) (b : ℕ) → image_valid image ≡ true → control_valid k ≡ true
    → waits_now k (command_of b) ≡ false → beyond k.mode image k.address.position (command_of b) ≡ false
    → control_valid (accepted image k b).control ≡ true

-- No byte turns one device into the other.
abbrev pub KindKept : Type 0
KindKept = (image : List ℕ) (k : Control) (b : ℕ) → SameKind (accepted image k b).control.device k.device

-- Where the byte does not put the sound at rest, the chip sounds after it exactly if it did before.
abbrev pub SoundingKept : Type 0
SoundingKept =
    (image : List ℕ) (k : Control) (b : ℕ) → (accepted image k b).rests ≡ false
    → (accepted image k b).control.clock.sounding ≡ k.clock.sounding
