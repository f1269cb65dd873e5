-- Items that are read one after another from the bits of an image, through the first that is a stop: frames of any pitch
-- width, with or without a prefix.
use Rattle.std.specs.Prelude.{◌≡◌, ◌↔◌, Bool, true, false, cond, ◌||◌, List, [], ◌∷◌, ◌++◌, ℕ, zero, suc, ◌+◌, ◌≤◌, ◌<◌, length}
use Rattle.rom.specs.Bits.{Begins}
use Rattle.base.specs.declared.refusal.Shortfall.{Shortfall}

-- items with bits; a proper item is one that the code has, so that its bits say which it is
pub record Code : Type 1 where
  pub Item : Type 0
  pub Proper : Item → Type 0
  pub bits : Item → List ℕ
  pub stops : Item → Bool

-- what a reader returns at a bit: a whole item and the bit after it, or how short the bits are
pub data ItemAnswer (A : Type 0) : Type 0 where
  whole : A → ℕ → ItemAnswer A
  cut : Shortfall → ItemAnswer A

module _ (C : Code) where
  -- the central law, of any reader and its items: it returns a whole item exactly when the item is proper and its bits stand
  -- there, with the bit after them; and no item is without a bit
  pub record Lawful (s : List ℕ) (read : ℕ → ItemAnswer C.Item) : Type 0 where
    pub law : (at : ℕ) (f : C.Item) (next : ℕ)
        → (read at ≡ whole f next) ↔ (C.Proper f × Begins s at (C.bits f) × (next ≡ at + length (C.bits f)))
    pub some : (f : C.Item) → 0 < length (C.bits f)

  -- the bits of a list of items, one after another
  abbrev pub bits_all : List C.Item → List ℕ
  bits_all [] = []
  bits_all (f ∷ fs) = C.bits f ++ bits_all fs

  -- each item is proper
  abbrev pub AllProper : List C.Item → Type 0
  AllProper [] = Unit {0}
  AllProper (f ∷ fs) = C.Proper f × AllProper fs

  -- the image's bits from bit `at` on begin with the bits of the items fs
  pub record Encoded (s : List ℕ) (at : ℕ) (fs : List C.Item) : Type 0 where
    pub proper : AllProper fs
    pub begins : Begins s at (bits_all fs)

  -- the last of a list and only the last is a stop
  pub data Ended : List C.Item → Type 0 where
    last : {f : C.Item} → C.stops f ≡ true → Ended (f ∷ [])
    more : {f : C.Item} {fs : List C.Item} → C.stops f ≡ false → Ended fs → Ended (f ∷ fs)

  -- a phrase, the items fs, begins at bit `at`
  pub record Phrase (s : List ℕ) (at : ℕ) (fs : List C.Item) : Type 0 where
    pub encoded : Encoded s at fs
    pub ended : Ended fs

  -- fs is the longest list with whose bits the image's bits from bit `at` on begin
  pub record Longest (s : List ℕ) (at : ℕ) (fs : List C.Item) : Type 0 where
    pub encoded : Encoded s at fs
    pub longest : (gs : List C.Item) → Encoded s at gs → length gs ≤ length fs

  -- the items there: those of the phrase or, where none begins, those of the longest list
  pub data There (s : List ℕ) (at : ℕ) (fs : List C.Item) : Type 0 where
    phrase : Phrase s at fs → There s at fs
    none : ((gs : List C.Item) → Phrase s at gs → ⊥) → Longest s at fs → There s at fs

  -- the items that begin with what a reader returns: none, the stop alone, or the item and those from the bit after it on
  abbrev pub items_of : ItemAnswer C.Item → (ℕ → List C.Item) → List C.Item
  items_of (cut h) after = []
  items_of (whole f next) after = f ∷ cond (C.stops f) [] (after next)

  -- the items read from bit `at` on, through the first stop or up to where the bits end; at most n
  unfoldable pub items_from : (ℕ → ItemAnswer C.Item) → ℕ → ℕ → List C.Item
  items_from read at zero = []
  items_from read at (suc n) = items_of (read at) (λ next. items_from read next n)

  -- some item is a stop
  abbrev pub has_stop : List C.Item → Bool
  has_stop [] = false
  has_stop (f ∷ fs) = C.stops f || has_stop fs

-- the sum of a number of each item of a list
abbrev pub sum_of : {A : Type 0} → (A → ℕ) → List A → ℕ
sum_of of [] = 0
sum_of of (i ∷ is) = of i + sum_of of is
