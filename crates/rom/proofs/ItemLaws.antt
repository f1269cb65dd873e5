-- Items of any code, read by a reader that obeys the central law: what is read is the phrase that begins there or, where none
-- begins, the longest list.
-- Assumes nothing.
use mathlib.Core.Path.{◌≡◌, refl, sym, ap, ◌∙◌, subst}
use mathlib.Core.Logic.{◌↔◌}
use mathlib.Core.Bool.{true, false, true≢false, false≢true}
use mathlib.Core.List.{List, [], ◌∷◌, ◌++◌}
use Prim.Native.Nat.{ℕ, zero, suc, ◌+◌, ◌*◌, ◌≤◌}
use native.Mathlib.Omega.{arith}
use lib.ListN.{length, length-append}
use Rattle.base.proofs.Booleans.{either_way, by_test}
use Rattle.rom.specs.Items.{Code, ItemAnswer, whole, cut, Lawful, bits_all, Encoded, Ended, last, more, Phrase, There, phrase, none, items_of, items_from, has_stop}
use Rattle.base.specs.declared.refusal.Shortfall.{Shortfall}
use Rattle.rom.proofs.Encoding.{begins_room, begins_join, begins_split}

pub has_stop_lem : {C : Code} {fs : List C.Item} → Ended C fs → has_stop C fs ≡ true
has_stop_lem (last t) = rw t
has_stop_lem (more t d) = rw t (has_stop_lem d)

-- items stand within the image
pub there_inside : (C : Code) (s : List ℕ) (at : ℕ) (fs : List C.Item) → There C s at fs → at ≤ 8 * length s
there_inside C s at fs (phrase p) = omega (arith, begins_room s at (bits_all C fs) p.encoded.begins)
there_inside C s at fs (none n l) = omega (arith, begins_room s at (bits_all C fs) l.encoded.begins)

module _ (C : Code) (s : List ℕ) (read : ℕ → ItemAnswer C.Item) (lawful : Lawful C s read) where
  -- an item that is read ends in the image
  pub next_in : (at : ℕ) {f : C.Item} {n : ℕ} → read at ≡ whole f n → n ≤ 8 * length s
  next_in at {f} {n} e = let r = (lawful.law at f n).0 e in omega (arith, r.2, begins_room s at (C.bits f) r.1)

  one_each : (fs : List C.Item) → length fs ≤ length (bits_all C fs)
  one_each [] = omega arith
  one_each (f ∷ fs) = omega (arith, length-append (C.bits f) (bits_all C fs), one_each fs, lawful.some f)

  -- there are no more items than bits
  enough : (at : ℕ) {fs : List C.Item} → Encoded C s at fs → length fs ≤ 8 * length s
  enough at {fs} h = omega (arith, begins_room s at (bits_all C fs) h.begins, one_each fs)

  -- the first item of a list is read, and the others follow it
  first : {at : ℕ} {f : C.Item} {fs : List C.Item} → Encoded C s at (f ∷ fs)
      → (read at ≡ whole f (at + length (C.bits f))) × Encoded C s (at + length (C.bits f)) fs
  first {at} {f} {fs} h =
      let b = begins_split s at (C.bits f) (bits_all C fs) h.begins in
      ((lawful.law at f _).1 (h.proper.0, b.0, refl), record { proper = h.proper.1; begins = b.1 })

  ahead : {at : ℕ} {f : C.Item} {fs : List C.Item} {n : ℕ} → read at ≡ whole f n → Encoded C s n fs → Encoded C s at (f ∷ fs)
  ahead {at} {f} {fs} {n} e h =
      let r = (lawful.law at f n).0 e in
      record { proper = (r.0, h.proper); begins = begins_join s at (C.bits f) (bits_all C fs) r.1 (rw r.2 at h.begins) }

  -- the items from a bit on, by what is read there
  data Step (at n : ℕ) : List C.Item → Type 0 where
    nothing : {h : Shortfall} → read at ≡ cut h → Step at n []
    stop : {f : C.Item} {m : ℕ} → read at ≡ whole f m → C.stops f ≡ true → Step at n (f ∷ [])
    item : {f : C.Item} {m : ℕ} → read at ≡ whole f m → C.stops f ≡ false → Step at n (f ∷ items_from C read m n)

  step : (at n : ℕ) → Step at n (items_from C read at (suc n))
  unfolding items_from
  step at n = go (read at) refl
    where
      go : (r : ItemAnswer C.Item) → read at ≡ r → Step at n (items_of C r (λ next. items_from C read next n))
      go (cut h) e = nothing e
      go (whole f m) e = by_test (λ l. Step at n (f ∷ l)) (C.stops f) (λ t. stop e t) (λ t. item e t)

  -- the image's bits begin with those of the items that are read
  read_encoded : (n at : ℕ) → at ≤ 8 * length s → Encoded C s at (items_from C read at n)
  unfolding items_from
  read_encoded zero at h = record { proper = tt; begins = h }
  read_encoded (suc n) at h = go (read_encoded n) (step at n)
    where
      go : ((m : ℕ) → m ≤ 8 * length s → Encoded C s m (items_from C read m n)) → {l : List C.Item} → Step at n l → Encoded C s at l
      go ih (nothing e) = record { proper = tt; begins = h }
      go ih (stop e t) = ahead e (record { proper = tt; begins = next_in at e })
      go ih (item e t) = ahead e (ih _ (next_in at e))

  -- where there is a stop among them, it is the last and no other is
  read_ended : (n at : ℕ) → has_stop C (items_from C read at n) ≡ true → Ended C (items_from C read at n)
  unfolding items_from
  read_ended zero at h = absurd (false≢true h)
  read_ended (suc n) at h = go (read_ended n) (step at n) h
    where
      go : ((m : ℕ) → has_stop C (items_from C read m n) ≡ true → Ended C (items_from C read m n)) → {l : List C.Item} → Step at n l → has_stop C l ≡ true → Ended C l
      go ih (nothing e) h = absurd (false≢true h)
      go ih (stop e t) h = last t
      go ih (item e t) h = more t (ih _ (rw t at h))

  -- a phrase that begins there is what is read
  phrase_read : {fs : List C.Item} → Ended C fs → (n at : ℕ) → length fs ≤ n → Encoded C s at fs → items_from C read at n ≡ fs
  unfolding items_from
  phrase_read (last t) zero at l h = absurd (omega arith)
  phrase_read (last t) (suc n) at l h = rw ((first h).0, t)
  phrase_read (more t d) zero at l h = absurd (omega arith)
  phrase_read (more {f = f} t d) (suc n) at l h = rw ((first h).0, t, phrase_read d n (at + length (C.bits f)) (omega arith) (first h).1)

  -- where there is no stop, each list there is a beginning of what is read
  beginning : (gs : List C.Item) (n at : ℕ) → length gs ≤ n → Encoded C s at gs → has_stop C (items_from C read at n) ≡ false
      → (ts : List C.Item) × (items_from C read at n ≡ gs ++ ts)
  unfolding items_from
  beginning [] n at l h t = (items_from C read at n, refl)
  beginning (g ∷ gs) zero at l h t = absurd (omega arith)
  beginning (g ∷ gs) (suc n) at l h t =
      either_way (C.stops g)
      (λ e. absurd (true≢false (rw ((first h).0, e) at t)))
      (λ e.
      let r = beginning gs n (at + length (C.bits g)) (omega arith) (first h).1 (rw ((first h).0, e) at t) in
      (r.0, rw ((first h).0, e) (ap {B = List C.Item} (λ l. g ∷ l) r.1)))

  append_nothing : (fs ts : List C.Item) → length (fs ++ ts) ≤ length fs → fs ++ ts ≡ fs
  append_nothing [] [] h = refl
  append_nothing [] (t ∷ ts) h = absurd (omega arith)
  append_nothing (f ∷ fs) ts h = ap {B = List C.Item} (λ l. f ∷ l) (append_nothing fs ts (omega arith))

  module _ (at : ℕ) (room : at ≤ 8 * length s) where
    -- all items that are read from a bit of the image on
    abbrev all : List C.Item
    all = items_from C read at (8 * length s)

    -- fs is the phrase there exactly when it is what is read and has a stop
    pub phrase_found : (fs : List C.Item) → Phrase C s at fs ↔ ((all ≡ fs) × (has_stop C fs ≡ true))
    phrase_found fs = (
      λ h. (phrase_read h.ended (8 * length s) at (enough at h.encoded) h.encoded, has_stop_lem h.ended),
      λ h. subst (Phrase C s at) h.0
          (record { encoded = read_encoded (8 * length s) at room; ended = read_ended (8 * length s) at (rw (← h.0) at h.1) }),
    )

    -- the items there are those that are read
    pub there_read : (fs : List C.Item) → There C s at fs ↔ (all ≡ fs)
    there_read fs = (are, λ e. subst (There C s at) e (either_way (has_stop C all) by_phrase by_none))
      where
        are : There C s at fs → all ≡ fs
        are (phrase p) = ((phrase_found fs).0 p).0
        are (none n l) =
            let b = beginning fs (8 * length s) at (enough at l.encoded) l.encoded (either_way (has_stop C all) (λ t. absurd (n all ((phrase_found all).1 (refl, t)))) (λ t. t)) in
            b.1 ∙ append_nothing fs b.0 (rw b.1 at (l.longest all (read_encoded (8 * length s) at room)))

        by_phrase : has_stop C all ≡ true → There C s at all
        by_phrase t = phrase ((phrase_found all).1 (refl, t))

        by_none : has_stop C all ≡ false → There C s at all
        by_none t = none
            (λ gs p. let g = (phrase_found gs).0 p in true≢false (sym g.1 ∙ rw (← g.0) t))
            (record {
              encoded = read_encoded (8 * length s) at room;
              longest = λ gs g.
                  let b = beginning gs (8 * length s) at (enough at g) g t in
                  omega (arith, length-append gs b.0, ap length b.1);
            })
