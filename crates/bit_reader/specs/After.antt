-- Where a reader is after what it has read at bit `at`.
use Rattle.std.specs.Prelude.{Ok, Err, ℕ, ◌+◌}
use Rattle.rom.specs.Reader.{FrameAnswer}

-- after a field of a width: the bit after it
abbrev pub after_field : ℕ → ℕ → ℕ
after_field at width = at + width

-- after a frame: the bit after it, or `at` itself where the bits end first
abbrev pub after_frame : ℕ → FrameAnswer → ℕ
after_frame at (Ok (f, next)) = next
after_frame at (Err h) = at
