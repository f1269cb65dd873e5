-- A walk over items of any code, item by item: how far it has come, and what follows from what is read there. It adds up the items'
-- bits, how many they are, and a number `of` each.
-- Assumes nothing.
use mathlib.Core.Path.{◌≡◌, refl, sym, ap, ◌∙◌}
use mathlib.Core.Logic.{◌↔◌}
use mathlib.Core.Bool.{Bool, true, false, cond}
use mathlib.Core.List.{List, [], ◌∷◌, ◌++◌}
use Prim.Native.Nat.{ℕ, zero, suc, ◌+◌, ◌*◌, ◌-◌, ◌≤◌, ◌<◌}
use native.Mathlib.Omega.{arith}
use borrow.Author.Tests.{eqb-true, eqb-false}
use lib.Dec.{eqb}
use lib.ListN.{length, length-append}
use Rattle.base.specs.Refusals.{TAKEN, first_fault, unless_fault}
use Rattle.base.proofs.Booleans.{either_way}
use Rattle.base.proofs.Faults.{NoneApplies, Numbered, none_applies, faultless}
use Rattle.rom.specs.Items.{Code, ItemAnswer, whole, cut, Lawful, bits_all, Ended, Phrase, There, items_from, has_stop, sum_of}
use Rattle.rom.specs.Phrases.{walk_refused, walk_cut}
use Rattle.base.specs.declared.refusal.Shortfall.{Shortfall}
use Rattle.rom.specs.Phrases.{Walked}
use Rattle.rom.proofs.Encoding.{begins_room}
use Rattle.rom.proofs.ItemLaws.{next_in, phrase_found, there_read}

module _ {W : Type 0} (C : Code) (of : C.Item → ℕ) (accept : ℕ → ℕ → ℕ → W) (refused : ℕ → W) where
  -- what a walk over items returns, which follow b bits, k items and the sum t
  abbrev pub walked_on : ℕ → ℕ → ℕ → List C.Item → W
  walked_on b k t is =
      cond (has_stop C is) (accept (b + length (bits_all C is)) (k + length is) (t + sum_of of is)) (refused (b + length (bits_all C is)))

  module _ (s : List ℕ) (read : ℕ → ItemAnswer C.Item) (lawful : Lawful C s read) (start : ℕ) where
    -- all items from bit `start` on
    abbrev all : List C.Item
    all = items_from C read start (8 * length s)

    -- the walk from bit `start` has come to bit `at` after k items, whose numbers' sum is t
    pub record Come (at k t : ℕ) : Type 0 where
      pub passed : start + k ≤ at
      pub inside : at ≤ 8 * length s
      pub rest : walked_on 0 0 0 all ≡ walked_on (at - start) k t (items_from C read at (8 * length s - k))

    pub come_first : start ≤ 8 * length s → Come start 0 0
    come_first h =
        let e : start - start ≡ 0 = omega arith in
        let d : 8 * length s - 0 ≡ 8 * length s = omega arith in
        record { passed = omega arith; inside = h; rest = rw (e, d) refl }

    module _ {at k t : ℕ} (h : Come at k t) where
      pub come_cut : {x : Shortfall} → read at ≡ cut x → refused (at - start) ≡ walked_on 0 0 0 all
      unfolding items_from
      come_cut c = sym (h.rest ∙ go (8 * length s - k))
        where
          go : (m : ℕ) → walked_on (at - start) k t (items_from C read at m) ≡ refused (at - start)
          go zero = ap refused (omega arith)
          go (suc m) = rw c (ap refused (omega arith))

      module _ {i : C.Item} {n : ℕ} (w : read at ≡ whole i n) where
        -- the item's bits, at least one, end in the image
        after : n ≡ at + length (C.bits i)
        after = ((lawful.law at i n).0 w).2

        -- there is a step left
        left : 8 * length s - k ≡ suc (8 * length s - (k + 1))
        left = omega (arith, after, lawful.some i, next_in C s read lawful at w, h.passed)

        pub come_stop : C.stops i ≡ true → accept (n - start) (k + 1) (t + of i) ≡ walked_on 0 0 0 all
        unfolding items_from
        come_stop e =
            let b : at - start + length (C.bits i ++ []) ≡ n - start = omega (arith, after, length-append (C.bits i) [], h.passed) in
            let d : t + (of i + 0) ≡ t + of i = omega arith in
            sym (h.rest ∙ rw (left, w, e, b, d) refl)

        pub come_on : C.stops i ≡ false → Come n (k + 1) (t + of i)
        unfolding items_from
        come_on e =
            let g = items_from C read n (8 * length s - (k + 1)) in
            let b : at - start + length (C.bits i ++ bits_all C g) ≡ n - start + length (bits_all C g) =
            omega (arith, after, h.passed, length-append (C.bits i) (bits_all C g)) in
            let c : k + suc (length g) ≡ k + 1 + length g = omega arith in
            let d : t + (of i + sum_of of g) ≡ t + of i + sum_of of g = omega arith in
            record {
              passed = omega (arith, after, lawful.some i, h.passed);
              inside = next_in C s read lawful at w;
              rest = h.rest ∙ rw (left, w, e, b, c, d) refl;
            }

-- a phrase's bits end in the image
pub phrase_room : {C : Code} (s : List ℕ) (at : ℕ) {is : List C.Item} → Phrase C s at is → at + length (bits_all C is) ≤ 8 * length s
phrase_room {C} s at {is} p = begins_room s at (bits_all C is) p.encoded.begins

-- The walk with its checks, from byte address a on, which no fault leaves outside the image: what it returns, and of which phrase.
module _ (C : Code) (s : List ℕ) (read : ℕ → ItemAnswer C.Item) (lawful : Lawful C s read) (a : ℕ) where
  -- a phrase begins within the image
  pub phrase_inside : {is : List C.Item} → Phrase C s (8 * a) is → a < length s
  phrase_inside {is} p = go is p.ended (phrase_room s (8 * a) p)
    where
      go : (js : List C.Item) → Ended C js → 8 * a + length (bits_all C js) ≤ 8 * length s → a < length s
      go [] d room = elim d [ ]
      go (j ∷ js) d room = omega (arith, length-append (C.bits j) (bits_all C js), lawful.some j)

  module _ (inside : a < length s) where
    pub found : (is : List C.Item) → Phrase C s (8 * a) is ↔ ((items_from C read (8 * a) (8 * length s) ≡ is) × (has_stop C is ≡ true))
    found = phrase_found C s read lawful (8 * a) (omega arith)

  -- no second phrase begins there
  pub one_phrase : (is js : List C.Item) → Phrase C s (8 * a) is → Phrase C s (8 * a) js → is ≡ js
  one_phrase is js p q = let f = found (phrase_inside p) in sym ((f is).0 p).0 ∙ ((f js).0 q).0

  module _ (accept : List C.Item → Walked) (taken : (is : List C.Item) → (accept is).refusal ≡ TAKEN) (short : List C.Item → Shortfall)
      (faults : List (Bool × ℕ)) (numbered : Numbered faults) (inside : NoneApplies faults → a < length s) where
    abbrev there : List C.Item
    there = items_from C read (8 * a) (8 * length s)

    abbrev walked : Walked
    walked = unless_fault (first_fault faults) walk_refused (cond (has_stop C there) (accept there) (walk_cut (short there)))

    pub counts : NoneApplies faults → {is : List C.Item} → Phrase C s (8 * a) is → walked ≡ accept is
    counts n {is} p = let f = (found (phrase_inside p) is).0 p in rw (faultless faults n, f.0, f.1)

    pub refuses : NoneApplies faults → ((is : List C.Item) → Phrase C s (8 * a) is → ⊥) → {is : List C.Item} → There C s (8 * a) is
        → walked ≡ walk_cut (short is)
    refuses n none {is} t =
        let e = (there_read C s read lawful (8 * a) (omega (arith, inside n)) is).0 t in
        rw (faultless faults n)
        (either_way (has_stop C there) (λ t. absurd (none _ ((found (inside n) _).1 (refl, t)))) (λ t. rw t (ap (λ l. walk_cut (short l)) e)))

    pub accepts : (walked.refusal ≡ TAKEN) ↔ (NoneApplies faults × ((is : List C.Item) × Phrase C s (8 * a) is))
    accepts = (from, λ h. ap (λ (w : Walked). w.refusal) (counts h.0 h.1.1) ∙ taken h.1.0)
      where
        from : walked.refusal ≡ TAKEN → NoneApplies faults × ((is : List C.Item) × Phrase C s (8 * a) is)
        from h =
            either_way (eqb (first_fault faults) 0)
            (λ f. either_way (has_stop C there)
            (λ t. let n = none_applies faults numbered (eqb-true _ _ f) in (n, (there, (found (inside n) there).1 (refl, t))))
            (λ t. absurd (omega (arith, rw (f, t) at h))))
            (λ f. absurd (eqb-false _ _ f (rw f at h)))
