-- The kind of a head: what the head is where a kind is given, and the bits of a frame of each kind.
-- Assumes nothing.
use mathlib.Core.Path.{◌≡◌}
use mathlib.Core.List.{List}
use Prim.Native.Nat.{ℕ, ◌+◌, ◌≤◌}
use native.Mathlib.Omega.{arith}
use borrow.Author.Tests.{eqb-true, eqb-false, ne_eqb}
use lib.Dec.{eqb}
use Rattle.base.proofs.Booleans.{by_test}
use Rattle.rom.specs.Frames.{bit_count}
use Rattle.rom.specs.Reader.{silence_code, stop_code, kind_of, kind_bits, frame_of}
use Rattle.rom.specs.declared.head.Head.{Head}
use Rattle.rom.specs.declared.head.Kind.{Kind}
use Rattle.rom.specs.declared.head.Kind.TheVariants.{Silence, Stop, Repeat, Unvoiced, Voiced}

-- the head's energy is neither a silence's nor a stop's
abbrev pub Sounds : Head → Type 0
Sounds h = (h.energy ≡ silence_code → ⊥) × (h.energy ≡ stop_code → ⊥)

-- the heads of a kind
pub data OfHead (h : Head) : Kind → Type 0 where
  silence : h.energy ≡ silence_code → OfHead h Silence
  stop : h.energy ≡ stop_code → OfHead h Stop
  repeat : Sounds h → h.repeat ≡ 1 → OfHead h Repeat
  unvoiced : Sounds h → (h.repeat ≡ 1 → ⊥) → h.pitch ≡ 0 → OfHead h Unvoiced
  voiced : Sounds h → (h.repeat ≡ 1 → ⊥) → (h.pitch ≡ 0 → ⊥) → OfHead h Voiced

pub kind_given : (h : Head) → OfHead h (kind_of h)
kind_given h =
    by_test (OfHead h) (eqb h.energy silence_code)
    (λ t. silence (eqb-true _ _ t))
    (λ n. by_test (OfHead h) (eqb h.energy stop_code)
    (λ t. stop (eqb-true _ _ t))
    (λ m. let sounds : Sounds h = (eqb-false _ _ n, eqb-false _ _ m) in
    by_test (OfHead h) (eqb h.repeat 1)
    (λ t. repeat sounds (eqb-true _ _ t))
    (λ r. by_test (OfHead h) (eqb h.pitch 0)
    (λ t. unvoiced sounds (eqb-false _ _ r) (eqb-true _ _ t))
    (λ p. voiced sounds (eqb-false _ _ r) (eqb-false _ _ p)))))

pub kind_is : (h : Head) {k : Kind} → OfHead h k → k ≡ kind_of h
kind_is h (silence e) = rw e
kind_is h (stop e) = rw e
kind_is h (repeat n e) = rw (ne_eqb _ _ n.0, ne_eqb _ _ n.1, e)
kind_is h (unvoiced n r e) = rw (ne_eqb _ _ n.0, ne_eqb _ _ n.1, ne_eqb _ _ r, e)
kind_is h (voiced n r p) = rw (ne_eqb _ _ n.0, ne_eqb _ _ n.1, ne_eqb _ _ r, ne_eqb _ _ p)

-- the bits of a kind are those that the table of kinds gives its frames
pub kind_counts : (P : ℕ) (k : Kind) (h : Head) (s : List ℕ) (at : ℕ) → kind_bits P k ≡ bit_count P (frame_of k h s at)
kind_counts P Silence h s at = omega arith
kind_counts P Stop h s at = omega arith
kind_counts P Repeat h s at = omega arith
kind_counts P Unvoiced h s at = omega arith
kind_counts P Voiced h s at = omega arith

-- a voiced frame has the most
pub kind_bits_most : (P : ℕ) (k : Kind) → kind_bits P k ≤ 44 + P
kind_bits_most P Silence = omega arith
kind_bits_most P Stop = omega arith
kind_bits_most P Repeat = omega arith
kind_bits_most P Unvoiced = omega arith
kind_bits_most P Voiced = omega arith
