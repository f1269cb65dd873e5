-- The pulse place (01, "Sound"): it goes up by one, or to 0 if that is the current pitch or more.
use Rattle.std.specs.Prelude.{cond, ℕ, ◌+◌, ℤ, pos}
use Rattle.std.specs.Int.Signed.{le_z}

-- the most that it can be
abbrev pub pulse_max : ℕ
pulse_max = 1022

-- the place after a sample
abbrev pub next_pulse : ℕ → ℤ → ℕ
next_pulse place pitch = cond (le_z pitch (pos (place + 1))) 0 (place + 1)
