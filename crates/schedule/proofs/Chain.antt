-- The items that stand at a bit, read one after another.
-- Assumes nothing.
use mathlib.Core.Path.{◌≡◌, refl, subst}
use mathlib.Core.Bool.{true, false}
use mathlib.Core.List.{List, [], ◌∷◌}
use Prim.Native.Nat.{ℕ, zero, suc, ◌+◌, ◌*◌, ◌≤◌}
use native.Mathlib.Omega.{arith}
use lib.ListN.{length}
use Rattle.base.proofs.Booleans.{by_test}
use Rattle.rom.specs.Frames.{is_stop}
use Rattle.rom.specs.Items.{ItemAnswer, whole, cut, items_from, items_of, There}
use Rattle.base.specs.declared.refusal.Shortfall.{Shortfall}
use Rattle.rom.proofs.Encoding.{begins_room}
use Rattle.rom.proofs.ItemLaws.{there_inside}
use Rattle.rom.proofs.Prefixed.{prefixed_law, prefixed_read}
use Rattle.rates.specs.Form.{Form, Item, item_code, read_item}
use Rattle.schedule.proofs.Due.{width}

-- the items `is` are read from bit p on, up to a stop or to where the bits end
pub data Chain (F : Form) (image : List ℕ) : ℕ → List Item → Type 0 where
  stop : {p : ℕ} {i : Item} → read_item F image p ≡ whole i (p + width F i) → is_stop i.1 ≡ true → Chain F image p (i ∷ [])
  more : {p : ℕ} {i : Item} {is : List Item} → read_item F image p ≡ whole i (p + width F i) → is_stop i.1 ≡ false
      → Chain F image (p + width F i) is → Chain F image p (i ∷ is)
  end : {p : ℕ} {h : Shortfall} → read_item F image p ≡ cut h → p ≤ 8 * length image → Chain F image p []

module _ (F : Form) (image : List ℕ) where
  abbrev read : ℕ → ItemAnswer Item
  read = read_item F image

  -- a whole item ends inside the image, at least a bit on
  record After (p : ℕ) (i : Item) (next : ℕ) : Type 0 where
    is : next ≡ p + width F i
    inside : next ≤ 8 * length image
    further : p + 1 ≤ next

  after : (p : ℕ) {i : Item} {next : ℕ} → read p ≡ whole i next → After p i next
  after p {i} {next} e =
      let l = prefixed_law F.prefix F.pitch image in
      let r = (l.law p i next).0 e in
      record {
        is = r.2;
        inside = omega (arith, r.2, begins_room image p ((item_code F).bits i) r.1);
        further = omega (arith, r.2, l.some i);
      }

  -- with n reads, one for each bit left, no item is missed
  abbrev Chained : ℕ → Type 0
  Chained n = (p : ℕ) → 8 * length image ≤ p + n → p ≤ 8 * length image → Chain F image p (items_from (item_code F) read p n)

  chain : (n : ℕ) → Chained n
  unfolding items_from
  chain zero p h l = go (read p) refl
    where
      go : (r : ItemAnswer Item) → read p ≡ r → Chain F image p []
      go (whole i next) e = let a = after p e in absurd (omega (arith, a.inside, a.further))
      go (cut h) e = end e l
  chain (suc n) p h l = go (chain n) (read p) refl
    where
      go : Chained n → (r : ItemAnswer Item) → read p ≡ r → Chain F image p (items_of (item_code F) r (λ next. items_from (item_code F) read next n))
      go ih (whole i next) e =
          let a = after p e in
          let w : read p ≡ whole i (p + width F i) = subst (λ (q : ℕ). read p ≡ whole i q) a.is e in
          by_test (λ is. Chain F image p (i ∷ is)) (is_stop i.1) (λ t. stop w t)
          (λ t. more w t (subst (λ (q : ℕ). Chain F image q (items_from (item_code F) read next n)) a.is (ih next (omega (arith, a.further)) a.inside)))
      go ih (cut h) e = end e l

  -- the items there are read one after another
  pub chain_there : (start : ℕ) (is : List Item) → There (item_code F) image start is → Chain F image start is
  chain_there start is h =
      let l = there_inside (item_code F) image start is h in
      subst (Chain F image start) ((prefixed_read F.prefix F.pitch image start is l).0 h)
      (chain (8 * length image) start (omega arith) l)
