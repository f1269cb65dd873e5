-- The bit after a frame fits a usize.
-- Assumes nothing.
use mathlib.Core.List.{List}
use Prim.Native.Nat.{ℕ, ◌+◌, ◌*◌, ◌^◌, ◌≤◌, ◌<◌}
use native.Mathlib.Omega.{arith}
use borrow.Author.Tests.{leb-false}
use lib.Dec.{leb}
use lib.ListN.{length}
use Rattle.rom.specs.Bits.{image_valid}
use Rattle.rom.specs.Frames.{pitch_width, bit_count}
use Rattle.rom.specs.Reader.{FrameAnswer, frame_at, taken_of, frame_taken_of}
use Rattle.rom.specs.declared.frames.Frame.{Frame}
use Rattle.rom.specs.declared.frames.Frame.TheVariants.{Silence, Stop, Repeat, Unvoiced, Voiced}
use Rattle.std.specs.Prelude.{Ok, Err}
use Rattle.rom.proofs.Checks.{valid_length}
use Rattle.base.proofs.Booleans.{either_way}

bits_most : (f : Frame) → bit_count pitch_width f ≤ 50
bits_most Silence = omega arith
bits_most Stop = omega arith
bits_most (Repeat e p) = omega arith
bits_most (Unvoiced e k1 k2 k3 k4) = omega arith
bits_most (Voiced e p k1 k2 k3 k4 k5 k6 k7 k8 k9 k10) = omega arith

taken_most : (t : FrameAnswer) → (taken_of pitch_width t).bits ≤ 50
taken_most (Ok (f, next)) = bits_most f
taken_most (Err h) = omega arith

pub next_fits : (s : List ℕ) (at : ℕ) → at < 2 ^ 64 → at + (frame_taken_of pitch_width s at).bits < 2 ^ 64
unfolding frame_taken_of
next_fits s at h =
    either_way (image_valid s)
    (λ p. either_way (leb (8 * length s) at) (λ q. rw (p, q) (omega arith))
    (λ q. rw (p, q) (omega (arith, taken_most (frame_at pitch_width s at), valid_length s p, leb-false (8 * length s) at q))))
    (λ p. rw p (omega arith))
