-- Frames that each follow a prefix of Q bits, as the rate bits of the TMS5220C. They are for a device with such frames;
-- the TMS5220 and TMS5200 have none. They are items as plain frames are, and their reader obeys the central law of its
-- items (`PrefixedLaw`, `PrefixedRead` in Theorems). P is the width of the pitch field.
use Rattle.std.specs.Prelude.{Ok, Err, List, ◌++◌, ℕ, ◌+◌, ◌^◌, ◌<◌}
use Rattle.rom.specs.Bits.{field, digits}
use Rattle.rom.specs.Frames.{bits_of, Proper, is_stop}
use Rattle.rom.specs.Reader.{FrameAnswer, frame_from}
use Rattle.rom.specs.Items.{Code, ItemAnswer, whole, cut}
use Rattle.rom.specs.declared.frames.Frame.{Frame}

-- a prefix's value and its frame
abbrev pub prefixed_code : ℕ → ℕ → Code
prefixed_code Q P = record {
  Item = ℕ × Frame;
  Proper = λ i. (i.0 < 2 ^ Q) × Proper P i.1;
  bits = λ i. digits Q i.0 ++ bits_of P i.1;
  stops = λ i. is_stop i.1;
}

-- the frame answer after a prefix of value q, as that of an item
abbrev pub with_prefix : ℕ → FrameAnswer → ItemAnswer (ℕ × Frame)
with_prefix q (Ok (f, next)) = whole (q, f) next
with_prefix q (Err h) = cut h

-- the reader of a prefix and its frame
abbrev pub read_prefixed : ℕ → ℕ → List ℕ → ℕ → ItemAnswer (ℕ × Frame)
read_prefixed Q P s at = with_prefix (field s at Q) (frame_from P s at (at + Q))
