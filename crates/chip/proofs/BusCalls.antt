-- What a written byte, a look, an acknowledge and a read return, by their fault, and what a byte without a fault finds.
-- Assumes nothing.
use mathlib.Core.Path.{◌≡◌, refl, ap, ◌∙◌}
use mathlib.Core.Bool.{Bool, true, false, not}
use mathlib.Core.List.{List, [], ◌∷◌}
use Prim.Native.Nat.{ℕ}
use native.Mathlib.Omega.{arith}
use borrow.Author.Tests.{not-false}
use Rattle.base.specs.Answers.{number_of}
use Rattle.base.specs.declared.refusal.Refusal.{Refusal}
use Rattle.base.proofs.Refused.{refused_not_taken}
use Rattle.base.specs.Refusals.{WAIT, BEYOND, IMAGE, STATE}
use Rattle.base.proofs.Booleans.{either_way}
use Rattle.base.proofs.Faults.{First, first_is, answered, refused_with, none_applies, by_fault}
use Rattle.rom.specs.Bits.{image_valid}
use Rattle.control.specs.Commands.{command_of, waits_now, beyond}
use Rattle.bus.specs.Accept.{accepted}
use Rattle.control.specs.Status.{bus_byte}
use Rattle.chip.specs.Types.{Accepted, Command, Chip, Control, Acknowledged, ByteRead}
use Rattle.chip.specs.Validity.{valid}
use Rattle.chip.specs.Write.{command_fault, write_fault, not_written, after_byte, write_of}
use Rattle.chip.specs.Read.{read_fault, not_looked, look_of, not_acknowledged, acknowledged, acknowledge_of, read_of}
use Rattle.chip.specs.Laws.{LookKeeps, ReadSame}

-- ---- a written byte

-- the faults of a byte with a command, in the order of the checks
abbrev command_faults : List ℕ → Chip → Command → List (Bool × ℕ)
command_faults image c k =
    (not (image_valid image), IMAGE) ∷ (not (valid c), STATE) ∷ (waits_now c.control k, WAIT) ∷
    (beyond c.control.mode image c.control.address.position k, BEYOND) ∷ []

pub command_fault_lem : (image : List ℕ) (c : Chip) (k : Command) {n : ℕ} → First (command_faults image c k) n → n ≡ command_fault image c k
unfolding command_fault
command_fault_lem image c k h = first_is h

module _ (image : List ℕ) (c : Chip) (b : ℕ) where
  -- what a byte without a fault finds
  pub record Found : Type 0 where
    pub image_valid_lem : image_valid image ≡ true
    pub chip_valid : valid c ≡ true
    pub no_wait : waits_now c.control (command_of b) ≡ false
    pub not_beyond : beyond c.control.mode image c.control.address.position (command_of b) ≡ false

  pub found : write_fault image c b ≡ 0 → Found
  unfolding command_fault
  found h =
      let r = none_applies (command_faults image c (command_of b)) tt h in
      record { image_valid_lem = not-false _ r.0; chip_valid = not-false _ r.1.0; no_wait = r.1.1.0; not_beyond = r.1.1.1.0 }

  module _ {n : ℕ} (e : n ≡ write_fault image c b) where
    pub write_refused : (n ≡ 0 → ⊥) → record { chip = c; refusal = n } ≡ write_of image c b
    unfolding write_of
    write_refused h = refused_with e (not_written c) _ h refl

    pub write_taken : {a : Accepted} {d : Chip} → n ≡ 0 → a ≡ accepted image c.control b → d ≡ after_byte c a
        → record { chip = d; refusal = 0 } ≡ write_of image c b
    unfolding write_of
    write_taken h a d = answered e (not_written c) _ h (rw (d, a))

-- ---- a look, an acknowledge and a read

module _ (c : Chip) where
  module _ {n : ℕ} (e : n ≡ read_fault c) where
    pub look_refused : (n ≡ 0 → ⊥) → record { chip = c; refusal = n; byte = 0 } ≡ look_of c
    unfolding look_of
    look_refused h = refused_with e (not_looked c) _ h refl

    pub look_taken : {x : ℕ} → n ≡ 0 → x ≡ bus_byte c.control → record { chip = c; refusal = 0; byte = x } ≡ look_of c
    unfolding look_of
    look_taken h x = answered e (not_looked c) _ h (rw x)

    pub acknowledge_refused : (n ≡ 0 → ⊥) → record { chip = c; refusal = n } ≡ acknowledge_of c
    unfolding acknowledge_of
    acknowledge_refused h = refused_with e (not_acknowledged c) _ h refl

    pub acknowledge_taken : {k : Control} → n ≡ 0 → k ≡ acknowledged c.control
        → record { chip = record { control = k; sound = c.sound }; refusal = 0 } ≡ acknowledge_of c
    unfolding acknowledge_of
    acknowledge_taken h w = answered e (not_acknowledged c) _ h (rw w)

  pub read_is : {l : ByteRead} {a : Acknowledged} → l ≡ look_of c → a ≡ acknowledge_of l.chip
      → record { chip = a.chip; refusal = a.refusal; byte = l.byte } ≡ read_of c
  unfolding read_of
  read_is l a = rw (a, l)

  pub read_refused : (r : Refusal) → not_looked c (number_of r) ≡ look_of c → not_looked c (number_of r) ≡ read_of c
  unfolding read_of look_of acknowledge_of
  read_refused r e =
      either_way (valid c)
      (λ v. let z : number_of r ≡ 0 = ap (λ (l : ByteRead). l.refusal) e ∙ rw v in absurd (refused_not_taken r z))
      (λ v. e ∙ rw (v, v))

  -- where a look is taken, an acknowledge is
  pub looked_not_refused : (r : Refusal) {x : ℕ} → record { chip = c; refusal = 0; byte = x } ≡ look_of c
      → not_acknowledged c (number_of r) ≡ acknowledge_of c → ⊥
  unfolding look_of acknowledge_of
  looked_not_refused r e a =
      either_way (valid c)
      (λ v. refused_not_taken r (ap (λ (l : Acknowledged). l.refusal) a ∙ rw v))
      (λ v. let z : 0 ≡ 4 = ap (λ (l : ByteRead). l.refusal) e ∙ rw v in omega arith)

pub look_keeps : LookKeeps
unfolding look_of
look_keeps c = by_fault (λ (l : ByteRead). l.chip ≡ c) (read_fault c) (not_looked c) _ (λ e. refl) (λ n. refl)

pub read_same : ReadSame
unfolding read_of look_of acknowledge_of
read_same c = either_way (valid c) (λ v. rw (v, v)) (λ v. rw (v, v))
