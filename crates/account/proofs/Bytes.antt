-- What a taken byte does to the bits held.
-- Assumes nothing.
use mathlib.Core.Path.{◌≡◌, refl, sym, ap}
use mathlib.Core.Bool.{Bool, true, false, cond, true≢false, false≢true}
use mathlib.Core.List.{List, [], ◌∷◌, ◌++◌}
use Prim.Native.Nat.{ℕ, ◌+◌, ◌<◌}
use native.Mathlib.Omega.{arith}
use borrow.Author.Tests.{not-false}
use lib.Dec.{eqb}
use lib.ListN.{length}
use Rattle.fifo.specs.Buffer.{fifo_size, appended}
use Rattle.fifo.proofs.Held.{held_length, held_appended}
use Rattle.control.specs.State.{start_level}
use Rattle.control.specs.Validity.{fifo_valid, control_valid}
use Rattle.fifo.specs.Buffer.{bits_of_byte, held_bits}
use Rattle.control.specs.Commands.{command_of, is_reset, waits}
use Rattle.control.proofs.Busy.{not_busy}
use Rattle.control.proofs.Ranges.{control_ranges, mode_ranges, valid_fits}
use Rattle.bus.specs.Commands.{sound_kept, talking, obeyed}
use Rattle.bus.specs.Accept.{buffered, accepted_in, accepted}
use Rattle.bus.proofs.Kept.{room}
use Rattle.account.specs.Types.{Fifo, Mode, Idle, Rom, Waiting, External, Control, Command, LoadFrameRate, ReadByte, ReadAndBranch, LoadAddress, Speak, SpeakExternal, Reset}
use Rattle.account.specs.Entries.{obeyed_reading}
use Rattle.account.specs.Laws.{is_external, reading_in, reading_of, ByteMoves, BytesIn}

empty : (l : List ℕ) → length l ≡ 0 → l ≡ []
empty [] h = refl
empty (x ∷ l) h = absurd (omega arith)

-- outside the external modes the FIFO holds no bits
none_held : (m : Mode) (f : Fifo) → is_external m ≡ false → fifo_valid m f ≡ true → held_bits f ≡ []
none_held Idle f e v = empty (held_bits f) (omega (arith, held_length f (valid_fits Idle f v), (mode_ranges Idle f v).at_most))
none_held Rom f e v = empty (held_bits f) (omega (arith, held_length f (valid_fits Rom f v), (mode_ranges Rom f v).at_most))
none_held Waiting f e v = absurd (true≢false e)
none_held External f e v = absurd (true≢false e)

pub held_none : (k : Control) → control_valid k ≡ true → is_external k.mode ≡ false → held_bits k.fifo ≡ []
held_none k v e = none_held k.mode k.fifo e (control_ranges k v).fifo

-- the reading of the control d in a mode that is known
pub in_mode : (d : Control) {m m' : Mode} → m ≡ m' → reading_in m d ≡ reading_in m' d
in_mode d e = ap (λ (m : Mode). reading_in m d) e

is_reset_lem : (c : Command) → is_reset c ≡ true → Reset ≡ c
is_reset_lem LoadFrameRate e = absurd (false≢true e)
is_reset_lem ReadByte e = absurd (false≢true e)
is_reset_lem ReadAndBranch e = absurd (false≢true e)
is_reset_lem LoadAddress e = absurd (false≢true e)
is_reset_lem Speak e = absurd (false≢true e)
is_reset_lem SpeakExternal e = absurd (false≢true e)
is_reset_lem Reset e = refl

module _ (image : List ℕ) (k : Control) (b : ℕ) (v : control_valid k ≡ true) where
  -- a command leaves the bits held, none, as they are
  commands : k.mode ≡ Idle → (c : Command)
      → (held_bits (obeyed image k b c).control.fifo ≡ held_bits k.fifo) × (reading_of (obeyed image k b c).control ≡ obeyed_reading (reading_in Idle k) b c)
  commands e LoadFrameRate = (refl, in_mode (obeyed image k b LoadFrameRate).control e)
  commands e ReadByte = (refl, in_mode (obeyed image k b ReadByte).control e)
  commands e ReadAndBranch = (refl, in_mode (obeyed image k b ReadAndBranch).control e)
  commands e LoadAddress = (refl, in_mode (obeyed image k b LoadAddress).control e)
  commands e Speak = (refl, refl)
  commands e SpeakExternal = (refl, refl)
  commands e Reset = (sym (held_none k v (ap is_external e)), refl)

  -- a byte for the FIFO goes behind
  behind : k.fifo.level < fifo_size → held_bits (appended k.fifo b) ≡ held_bits k.fifo ++ bits_of_byte k.fifo.order b
  behind l = held_appended k.fifo b (valid_fits k.mode k.fifo (control_ranges k v).fifo) l

  bytes_in_mode : (m : Mode) → k.mode ≡ m → waits m k.fifo.level (command_of b) ≡ false → k.fifo.level < fifo_size
      → ByteMoves (reading_in m k) (held_bits k.fifo) b (accepted_in m image k b).control
  bytes_in_mode Idle e w l = let r = commands e (command_of b) in record { bits = r.0; reading = r.1 }
  bytes_in_mode Rom e w l =
      let t = not-false (is_reset (command_of b)) w in
      record { bits = sym (held_none k v (ap is_external e)); reading = ap (obeyed_reading (reading_in Rom k) b) (is_reset_lem (command_of b) t) }
  bytes_in_mode Waiting e w l = go (eqb (k.fifo.level + 1) start_level)
    where
      go : (t : Bool) → ByteMoves (reading_in Waiting k) (held_bits k.fifo) b (cond t (talking External (buffered k b)) (sound_kept (buffered k b))).control
      go true = record { bits = behind l; reading = refl }
      go false = record { bits = behind l; reading = in_mode (buffered k b) e }
  bytes_in_mode External e w l = record { bits = behind l; reading = in_mode (buffered k b) e }

pub bytes_in : BytesIn
unfolding accepted
bytes_in image k b v w = bytes_in_mode image k b v k.mode refl (not_busy k (command_of b) w).1 (room k (command_of b) v w)
