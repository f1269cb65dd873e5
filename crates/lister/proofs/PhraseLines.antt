-- The frames of a phrase, and that their lines are those of the frames taken one after another.
-- Assumes nothing.
use mathlib.Core.Path.{◌≡◌, refl}
use mathlib.Core.Bool.{true}
use mathlib.Core.List.{List, [], ◌∷◌}
use Prim.Native.Nat.{ℕ, ◌+◌, ◌*◌, ◌<◌}
use native.Mathlib.Omega.{arith}
use borrow.Author.Tests.{lt-leb}
use lib.ListN.{length}
use Rattle.rom.specs.Bits.{image_valid, Begins}
use Rattle.rom.specs.Frames.{pitch_width, bits_of, bit_count}
use Rattle.rom.specs.Reader.{frame_at, taken_of, frame_taken_of}
use Rattle.rom.specs.Items.{bits_all, AllProper, phrase}
use Rattle.rom.specs.Phrases.{frame_code, PhraseAt, frames_at}
use Rattle.rom.specs.declared.frames.Frame.{Frame}
use Rattle.std.specs.Prelude.{Ok}
use Rattle.rom.proofs.CentralLaw.{central_law}
use Rattle.rom.proofs.Encoding.{begins_room, begins_split, length_encoded}
use Rattle.rom.proofs.FrameCode.{four_bits}
use Rattle.rom.proofs.Theorems.{phrase_inside, frames_read}
use Rattle.lister.specs.Listing.{lines_of, line_at, after, lines_from}

module _ (s : List ℕ) (v : image_valid s ≡ true) where
  -- a whole frame is taken
  taken_whole : (at : ℕ) (f : Frame) (next : ℕ) → at < 8 * length s → frame_at pitch_width s at ≡ Ok (f, next)
      → frame_taken_of pitch_width s at ≡ taken_of pitch_width (Ok (f, next))
  unfolding frame_taken_of
  taken_whole at f next h e = rw (v, lt-leb (8 * length s) at h, e)

  pub lines_are : (at : ℕ) (fs : List Frame) → AllProper (frame_code pitch_width) fs → Begins s at (bits_all (frame_code pitch_width) fs)
      → lines_from s at (length fs) ≡ lines_of at fs
  unfolding lines_of lines_from line_at after
  lines_are at [] p b = refl
  lines_are at (f ∷ fs) p b =
      let bits = bits_of pitch_width f in
      let parts = begins_split s at bits (bits_all (frame_code pitch_width) fs) b in
      let whole = (central_law pitch_width s at f (at + length bits)).1 (p.0, parts.0, refl) in
      let inside : at < 8 * length s = omega (arith, begins_room s at bits parts.0, four_bits pitch_width f) in
      let rest = lines_are (at + bit_count pitch_width f) fs p.1 (rw length_encoded at parts.1) in
      rw (taken_whole at f (at + length bits) inside whole, rest)

-- the frames read from an address on are those of the phrase that begins there
pub frames_found : (s : List ℕ) (a : ℕ) (fs : List Frame) → PhraseAt pitch_width s a fs → frames_at pitch_width s a ≡ fs
frames_found s a fs p = (frames_read pitch_width s a fs (phrase_inside pitch_width s a p)).0 (phrase p)
