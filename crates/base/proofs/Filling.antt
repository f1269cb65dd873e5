-- An array filled element by element with the list that is wanted.
-- Assumes nothing.
use mathlib.Core.Path.{◌≡◌, refl, sym, ap, ◌∙◌}
use mathlib.Core.List.{List, map}
use Prim.Native.Nat.{ℕ, ◌+◌, ◌≤◌, ◌<◌}
use native.Mathlib.Numerals.{add-one}
use native.Mathlib.Omega.{arith}
use lib.ListN.{length, get_or, take, drop, set, length-set, length-map, length-drop, get_or-map}
use lib.Seq.{take_all, take-suc, take-suc-set, length-take-le, get_or-take, get_or-drop}

-- the first i elements are as wanted
pub record Filled {A : Type 0} (want out : List A) (i : ℕ) : Type 0 where
  pub sized : length out ≡ length want
  pub done : take i out ≡ take i want

module _ {A : Type 0} {want out : List A} where
  pub fill_none : length out ≡ length want → Filled want out 0
  fill_none h = record { sized = h; done = refl }

  pub fill_more : (i : ℕ) (d v : A) → Filled want out i → i < length want → v ≡ get_or want i d → Filled want (set out i v) (i + 1)
  fill_more i d v f h e = record {
    sized = length-set out i v ∙ f.sized;
    done = rw (add-one, take-suc-set out i v (omega (arith, f.sized)), take-suc want i d h, f.done, e);
  }

  pub fill_all : (i : ℕ) → Filled want out i → length want ≤ i → out ≡ want
  fill_all i f h = sym (take_all i out (omega (arith, f.sized))) ∙ f.done ∙ take_all i want h

-- what f makes of the n elements of a list from index `at` on
module _ {A B : Type 0} (f : A → B) (at n : ℕ) (s : List A) where
  pub part_length : at + n ≤ length s → length (map f (take n (drop at s))) ≡ n
  part_length h = length-map (take n (drop at s)) f ∙ length-take-le n (drop at s) (simp length-drop (omega arith))

  pub part_element : (i : ℕ) (d : A) → i < n → f (get_or s (at + i) d) ≡ get_or (map f (take n (drop at s))) i (f d)
  part_element i d h = sym (get_or-map f (take n (drop at s)) i d ∙ ap f (get_or-take n (drop at s) i d h ∙ get_or-drop at s i d))
