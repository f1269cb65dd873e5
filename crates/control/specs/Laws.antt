-- What is proved of the time that a branch takes (02, §12).
use Rattle.std.specs.Prelude.{◌≡◌, true, ℕ, ◌+◌}
use Rattle.control.specs.Types.{Control}
use Rattle.control.specs.State.{less_busy}
use Rattle.control.specs.Validity.{control_valid}

-- n samples and then m are n + m samples.
abbrev pub LessTwice : Type 0
LessTwice = (n m : ℕ) (k : Control) → less_busy m (less_busy n k) ≡ less_busy (n + m) k

-- A valid control stays valid as they pass.
abbrev pub LessKeepsValid : Type 0
LessKeepsValid = (n : ℕ) (k : Control) → control_valid k ≡ true → control_valid (less_busy n k) ≡ true
