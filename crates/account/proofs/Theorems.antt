-- The account.
-- Assumes nothing.
use mathlib.Core.Path.{◌≡◌, refl, ap, ◌∙◌}
use mathlib.Core.Bool.{Bool, true, false, cond, ◌&&◌}
use mathlib.Core.List.{List}
use Prim.Native.Nat.{ℕ, ◌+◌, ◌*◌}
use native.Mathlib.Omega.{arith}
use borrow.Author.Tests.{ne_eqb}
use lib.Dec.{eqb}
use lib.ListN.{length, length-append}
use Rattle.fifo.proofs.Held.{length_byte, held_length}
use Rattle.sound.specs.State.{sound_valid, at_rest}
use Rattle.control.specs.Device.{device_valid}
use Rattle.control.specs.Validity.{control_valid}
use Rattle.control.proofs.Ranges.{valid_fits}
use Rattle.chip.specs.State.{power_up_of}
use Rattle.chip.specs.Validity.{valid}
use Rattle.chip.proofs.Ranges.{chip_ranges}
use Rattle.account.specs.Types.{Stop, BitOrder, Details, Report, Device}
use Rattle.account.specs.Entries.{last_chip, Entry, Reading, byte_bits, frame_bits}
use Rattle.account.specs.Order.{FifoMove, nothing, frame, stop, out, rom_step, Goes, buffered, commanded, not_written, moved, refused_step, unmoved, InOrder, done, then}
use Rattle.account.specs.Counts.{taken_by, given_by, given_in, thrown_by, bytes_taken, bits_given, bits_thrown}
use Rattle.account.specs.Theorems.{BitsInOrder, Balance, BitsAccounted}
use Rattle.account.proofs.Calls.{calls_in_order}

power_up_valid : (d : Device) (o : BitOrder) → device_valid d ≡ true → valid (power_up_of d o) ≡ true
unfolding valid control_valid sound_valid at_rest
power_up_valid d o v = rw v

pub bits_in_order : BitsInOrder
bits_in_order d o v xs = (calls_in_order xs (power_up_of d o) (power_up_valid d o v)).1

-- ---- the balance of a step and of an entry

none : (t : Bool) → ◌≡◌ {A = ℕ} (cond t 0 0) 0
none true = refl
none false = refl

step_balance : {t : Reading} {q left : List ℕ} {r : Report} {d : Details} → FifoMove t q r d left
    → length q ≡ cond t.external (given_in t r d) 0 + d.thrown + length left
step_balance {t} (nothing z) = omega (arith, none t.external)
step_balance {t} (frame {left = left} {f = f} {d = d} on e z) = rw on (omega (arith, ap length e ∙ length-append (frame_bits t d f) left))
step_balance {t} (stop {d = d} lost on e z) = rw on (omega (arith, ap length e ∙ length-append (frame_bits t d Stop) lost))
step_balance (out on s z) = rw on (omega arith)
step_balance (rom_step off z) = rw off (omega arith)

-- a refused byte does not count as a taken one
pub not_taken : {A : Type 0} (t : Bool) (n : ℕ) (x y : A) → (n ≡ 0 → ⊥) → cond (t && eqb n 0) x y ≡ y
not_taken true n x y h = rw (ne_eqb n 0 h)
not_taken false n x y h = refl

byte_length : (t : Reading) (b : ℕ) → length (byte_bits t b) ≡ 8
byte_length t b = length_byte t.order b

entry_balance : {t : Reading} {q left : List ℕ} {e : Entry} → Goes t q e left → 8 * taken_by t e + length q ≡ given_by t e + thrown_by e + length left
entry_balance (buffered {t} {queue} {b} on) = rw on (omega (arith, length-append queue (byte_bits t b), byte_length t b))
entry_balance (commanded off) = rw off (omega arith)
entry_balance (not_written {t} {n = n} h) = omega (arith, not_taken {A = ℕ} t.external n 1 0 h)
entry_balance (moved m) = omega (arith, step_balance m)
entry_balance (refused_step {t} h) = omega (arith, none t.external)
entry_balance unmoved = omega arith

balanced : {t : Reading} {q left : List ℕ} {es : List Entry} → InOrder t q es left → 8 * bytes_taken t es + length q ≡ bits_given t es + bits_thrown es + length left
balanced done = omega arith
balanced (then g rest) = omega (arith, entry_balance g, balanced rest)

pub balance : Balance
balance t q es left h = balanced h

pub bits_accounted : BitsAccounted
bits_accounted d o v xs =
    let r = calls_in_order xs (power_up_of d o) (power_up_valid d o v) in
    let k = (last_chip (power_up_of d o) xs).control in
    omega (arith, balanced r.1, held_length k.fifo (valid_fits k.mode k.fifo (chip_ranges _ r.0).control.fifo))
