-- Tests taken apart, and choices whose test is known.
-- Assumes nothing.
use mathlib.Core.Path.{◌≡◌, refl}
use mathlib.Core.Bool.{Bool, true, false, cond, ◌&&◌, ◌||◌, true≢false, false≢true}
use mathlib.Core.List.{List, [], ◌∷◌}

pub both_true : (a b : Bool) → (a && b) ≡ true → (a ≡ true) × (b ≡ true)
both_true true b e = (refl, e)
both_true false b e = absurd (false≢true e)

pub neither : (a b : Bool) → (a || b) ≡ false → (a ≡ false) × (b ≡ false)
neither true b e = absurd (true≢false e)
neither false b e = (refl, e)

pub and_true : (a : Bool) → (a && true) ≡ a
and_true true = refl
and_true false = refl

-- ---- a list of tests

-- all of a ∷ bs, nested to the left as `◌&&◌` is: `conj_from a (b ∷ c ∷ [])` is `a && b && c`
abbrev conj_from : Bool → List Bool → Bool
conj_from a [] = a
conj_from a (b ∷ bs) = conj_from (a && b) bs

-- all of a list of tests: `conj (a ∷ b ∷ c ∷ [])` is `a && b && c`
abbrev pub conj : List Bool → Bool
conj [] = true
conj (b ∷ bs) = conj_from b bs

-- each of them is true
abbrev pub AllTrue : List Bool → Type 0
AllTrue [] = Unit {0}
AllTrue (b ∷ bs) = (b ≡ true) × AllTrue bs

true_from : (a : Bool) (bs : List Bool) → conj_from a bs ≡ true → (a ≡ true) × AllTrue bs
true_from a [] e = (e, tt)
true_from a (b ∷ bs) e =
    let t = true_from (a && b) bs e in
    let u = both_true a b t.0 in
    (u.0, (u.1, t.1))

-- where all are true, each is: `all_true (a ∷ b ∷ c ∷ []) e`, of which `.0`, `.1 .0` and `.1 .1 .0` are a, b and c
pub all_true : (bs : List Bool) → conj bs ≡ true → AllTrue bs
all_true [] e = tt
all_true (b ∷ bs) e = true_from b bs e

from_true : (bs : List Bool) → AllTrue bs → conj_from true bs ≡ true
from_true [] h = refl
from_true (b ∷ bs) h = rw h.0 (from_true bs h.1)

-- where each is true, all are
pub conj_true : (bs : List Bool) → AllTrue bs → conj bs ≡ true
conj_true [] h = refl
conj_true (b ∷ bs) h = rw h.0 (from_true bs h.1)

-- ---- choices

-- whether a test is true or false
pub either_way : {C : Type 0} (b : Bool) → (b ≡ true → C) → (b ≡ false → C) → C
either_way true f g = f refl
either_way false f g = g refl

-- what holds of x where b is true and of y where it is false holds of the one that b picks
pub by_test : {A : Type 0} (C : A → Type 0) (b : Bool) {x y : A} → (b ≡ true → C x) → (b ≡ false → C y) → C (cond b x y)
by_test C true f g = f refl
by_test C false f g = g refl

pub cond_true : {A : Type 0} (t : Bool) (x y : A) → t ≡ true → cond t x y ≡ x
cond_true true x y e = refl
cond_true false x y e = absurd (false≢true e)

pub cond_false : {A : Type 0} (t : Bool) (x y : A) → t ≡ false → cond t x y ≡ y
cond_false true x y e = absurd (true≢false e)
cond_false false x y e = refl
