-- What is known of a frame that the reader returns whole: one law for the walk, the chip and whoever reads frames.
-- Assumes nothing.
use mathlib.Core.Path.{◌≡◌, sym, ◌∙◌}
use mathlib.Core.List.{List}
use Prim.Native.Nat.{ℕ, ◌+◌, ◌*◌, ◌≤◌}
use native.Mathlib.Omega.{arith}
use lib.ListN.{length}
use Rattle.rom.specs.Bits.{Begins}
use Rattle.rom.specs.Frames.{fields_of, Proper, bits_of, bit_count}
use Rattle.rom.specs.Reader.{frame_from}
use Rattle.rom.specs.declared.frames.Frame.{Frame}
use Rattle.rom.specs.Reader.{FrameAnswer}
use Rattle.std.specs.Prelude.{Ok}
use Rattle.rom.proofs.Encoding.{length_encoded, begins_room}
use Rattle.rom.proofs.CentralLaw.{central_from}
use Rattle.rom.proofs.FrameCode.{four_bits}

-- f stands at bit `at` of s, proper and whole, and `next` is the bit after it
pub record WholeFrame (P : ℕ) (s : List ℕ) (at : ℕ) (f : Frame) (next : ℕ) : Type 0 where
  pub proper : Proper P f
  pub begins : Begins s at (bits_of P f)
  pub after_bits : next ≡ at + length (bits_of P f)
  pub after_count : next ≡ at + bit_count P f
  pub inside : next ≤ 8 * length s
  pub further : at + 4 ≤ next

pub whole_frame_lem : (P : ℕ) (s : List ℕ) (begun at : ℕ) {a : FrameAnswer} {f : Frame} {next : ℕ} → a ≡ frame_from P s begun at → a ≡ Ok (f, next)
    → WholeFrame P s at f next
whole_frame_lem P s begun at {f = f} {next} e w =
    let l = (central_from P s begun at f next).0 (sym e ∙ w) in
    record {
      proper = l.0;
      begins = l.1;
      after_bits = l.2;
      after_count = omega (arith, l.2, length_encoded (fields_of P f));
      inside = omega (arith, l.2, begins_room s at (bits_of P f) l.1);
      further = omega (arith, l.2, four_bits P f);
    }
