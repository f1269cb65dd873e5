-- Entries in order take the bits apart.
-- Assumes nothing.
use mathlib.Core.Path.{◌≡◌, refl, sym, ap, ◌∙◌}
use mathlib.Core.List.{List, [], ◌∷◌, ◌++◌, append_assoc, append-nil}
use Prim.Native.Nat.{ℕ}
use Rattle.account.specs.Types.{Stop, Details, Report}
use Rattle.account.specs.Entries.{Entry, stepped, Reading, next, byte_bits, frame_bits}
use Rattle.account.specs.Order as order
use Rattle.account.specs.Order.{FifoMove, Goes, InOrder}
use Rattle.account.specs.Parts.{bits_in, bits_taken, Part, given, thrown, bits_of_parts, Leaves, writing, looking, nothing, frame, stop, out, rom_step, done, then}
use Rattle.account.specs.Theorems.{Apart, BitsApart}
use Rattle.account.proofs.Theorems.{bits_in_order, not_taken}

-- the parts that leave with one entry
record Apart-one (t : Reading) (q : List ℕ) (e : Entry) (left : List ℕ) : Type 0 where
  parts : List Part
  told : Leaves t e parts
  whole : q ++ bits_in t e ≡ bits_of_parts parts ++ left

-- where none leave
same : {t : Reading} {q : List ℕ} {e : Entry} → Leaves t e [] → bits_in t e ≡ [] → Apart-one t q e q
same {q = q} l e = record { parts = []; told = l; whole = ap (λ (x : List ℕ). q ++ x) e ∙ append-nil q }

step_apart : {t : Reading} (n : ℕ) {q left : List ℕ} {r : Report} {d : Details} → FifoMove t q r d left → Apart-one t q (stepped n r d) left
step_apart n (order.nothing z) = same nothing refl
step_apart {t} n (order.frame {left = left} {f = f} {d = d} on e z) =
    let own = frame_bits t d f in
    record { parts = given own ∷ []; told = frame on; whole = append-nil _ ∙ e ∙ ap (λ (l : List ℕ). l ++ left) (sym (append-nil own)) }
step_apart {t} n (order.stop {d = d} lost on e z) =
    let own = frame_bits t d Stop in
    record {
      parts = given own ∷ thrown lost ∷ [];
      told = stop lost on (sym z);
      whole = append-nil _ ∙ e ∙ ap (λ (l : List ℕ). own ++ l) (sym (append-nil lost)) ∙ sym (append-nil (own ++ (lost ++ [])));
    }
step_apart n (order.out {queue = q} on s z) = record { parts = given q ∷ []; told = out q on (sym s); whole = simp append-nil }
step_apart n (order.rom_step off z) = same (rom_step off) refl

entry_apart : {t : Reading} {q left : List ℕ} {e : Entry} → Goes t q e left → Apart-one t q e left
entry_apart (order.buffered {queue = q} {b = b} on) = record { parts = []; told = writing; whole = rw on }
entry_apart (order.commanded off) = same writing (rw off)
entry_apart (order.not_written {t} {b = b} {n = n} h) = same writing (not_taken t.external n (byte_bits t b) [] h)
entry_apart (order.moved m) = step_apart 0 m
entry_apart (order.refused_step h) = same nothing refl
entry_apart order.unmoved = same looking refl

parts_append : (ps qs : List Part) → bits_of_parts (ps ++ qs) ≡ bits_of_parts ps ++ bits_of_parts qs
parts_append [] qs = refl
parts_append (p ∷ ps) qs = rw (parts_append ps qs) (rw append_assoc)

apart : {t : Reading} {q left : List ℕ} {es : List Entry} → InOrder t q es left → Apart t q es left
apart (order.done {queue = q}) = record { parts = []; told = done; whole = append-nil q }
apart {q = q} {left = left} (order.then {t} {queue' = q'} {e = e} {es = es} g rest) =
    let a = entry_apart g in
    let b = apart rest in
    record {
      parts = a.parts ++ b.parts;
      told = then a.told b.told;
      whole =
          sym (append_assoc q (bits_in t e) (bits_taken (next t e) es))
          ∙ ap (λ (l : List ℕ). l ++ bits_taken (next t e) es) a.whole
          ∙ append_assoc (bits_of_parts a.parts) q' _
          ∙ ap (λ (l : List ℕ). bits_of_parts a.parts ++ l) b.whole
          ∙ sym (append_assoc (bits_of_parts a.parts) (bits_of_parts b.parts) left)
          ∙ ap (λ (l : List ℕ). l ++ left) (sym (parts_append a.parts b.parts));
    }

pub bits_apart : BitsApart
bits_apart d o v xs = apart (bits_in_order d o v xs)
