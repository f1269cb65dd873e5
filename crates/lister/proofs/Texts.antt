-- Laws of what a text holds.
-- Assumes nothing.
use Rattle.std.proofs.Common.{◌≡◌, ℕ, zero, suc, ◌+◌, ◌≤◌, min, List, [], ◌∷◌, ◌++◌, length, take, refl, ap, sym, ◌∙◌, append_assoc, append-nil, arith}
use Rattle.std.proofs.lemmas.List.{take_min}
use Rattle.std.proofs.Math.Seq.{take_all, take-append-add}
use Rattle.lister.specs.Text.{contents, appended}
use Rattle.lister.specs.declared.text.Text.{Text}

-- what is dropped before more is appended is dropped after it
take_append : (n : ℕ) (a b : List ℕ) → take n (take n a ++ b) ≡ take n (a ++ b)
take_append zero a b = refl
take_append (suc n) [] b = refl
take_append (suc n) (x ∷ a) b = ap (λ l. x ∷ l) (take_append n a b)

-- a was appended, then b
pub appended_twice : (t r : Text) (a b : List ℕ) → contents r ≡ appended t a → appended r b ≡ appended t (a ++ b)
unfolding appended
appended_twice t r a b e = rw (e, take_append, append_assoc)

module _ (t : Text) (fits : length (contents t) ≤ 80) where
  -- nothing was appended
  pub nothing_appended : contents t ≡ appended t []
  unfolding appended
  nothing_appended = rw append-nil (sym (take_all 80 (contents t) fits))

  -- as much of a word as there is room for
  pub word_appended : (word : List ℕ) (room : ℕ) → room + length (contents t) ≡ 80 → contents t ++ take (min room (length word)) word ≡ appended t word
  unfolding appended
  word_appended word room e =
      let r : 80 ≡ length (contents t) + room = omega arith in
      rw (r, take-append-add, take_min)

-- the text t has come to hold s, or as much of s as it has room for
pub record Holds (t : Text) (s : List ℕ) : Type 0 where
  pub text : contents t ≡ take 80 s

pub holds_nothing : {t : Text} → contents t ≡ [] → Holds t []
holds_nothing e = record { text = e }

pub holds_more : {t r : Text} {s : List ℕ} (b : List ℕ) → Holds t s → contents r ≡ appended t b → Holds r (s ++ b)
unfolding appended
holds_more {t} {r} {s} b h e = record { text = e ∙ rw h.text (take_append 80 s b) }

pub holds_all : {t : Text} {s : List ℕ} → Holds t s → length s ≤ 80 → contents t ≡ s
holds_all {t} {s} h l = h.text ∙ take_all 80 s l
