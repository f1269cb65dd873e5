-- Frames are items whose reader obeys the central law, so that the laws of items hold of them.
-- Assumes nothing.
use mathlib.Core.Path.{◌≡◌, ap}
use mathlib.Core.List.{List}
use Prim.Native.Nat.{ℕ, ◌≤◌}
use native.Mathlib.Omega.{arith}
use lib.ListN.{length}
use Rattle.rom.specs.Frames.{fields_of, bits_of, bit_count}
use Rattle.rom.specs.Reader.{frame_at}
use Rattle.rom.specs.Items.{whole, Lawful}
use Rattle.rom.specs.Phrases.{frame_code, item_answer_of}
use Rattle.rom.specs.declared.frames.Frame.{Frame}
use Rattle.rom.specs.declared.frames.Frame.TheVariants.{Silence, Stop, Repeat, Unvoiced, Voiced}
use Rattle.rom.specs.Reader.{FrameAnswer}
use Rattle.std.specs.Prelude.{Ok, Err}
use Rattle.rom.proofs.Encoding.{length_encoded}
use Rattle.rom.proofs.CentralLaw.{central_law}

bit_count_least : (P : ℕ) (f : Frame) → 4 ≤ bit_count P f
bit_count_least P Silence = omega arith
bit_count_least P Stop = omega arith
bit_count_least P (Repeat e p) = omega arith
bit_count_least P (Unvoiced e k1 k2 k3 k4) = omega arith
bit_count_least P (Voiced e p k1 k2 k3 k4 k5 k6 k7 k8 k9 k10) = omega arith

-- a frame has at least four bits
pub four_bits : (P : ℕ) (f : Frame) → 4 ≤ length (bits_of P f)
four_bits P f = omega (arith, length_encoded (fields_of P f), bit_count_least P f)

is_whole : {r : FrameAnswer} {f : Frame} {n : ℕ} → item_answer_of r ≡ whole f n → r ≡ Ok (f, n)
is_whole {r = Ok (g, m)} e = cc
is_whole {r = Err h} e = let z : ◌≡◌ {A = ℕ} 0 1 = cc in absurd (omega arith)

pub frames_lawful : (P : ℕ) (s : List ℕ) → Lawful (frame_code P) s (λ at. item_answer_of (frame_at P s at))
frames_lawful P s = record {
  law = λ at f n. let l = central_law P s at f n in (λ e. l.0 (is_whole e), λ h. ap item_answer_of (l.1 h));
  some = λ f. omega (arith, four_bits P f);
}
