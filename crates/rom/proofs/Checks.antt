-- The checks of a call at a place of an image.
-- Assumes nothing.
use mathlib.Core.Path.{◌≡◌, sym, ◌∙◌}
use mathlib.Core.Bool.{Bool, true, false, not}
use mathlib.Core.List.{List, [], ◌∷◌}
use Prim.Native.Nat.{ℕ, ◌*◌, ◌/◌, ◌≤◌, ◌<◌}
use native.Mathlib.Omega.{arith}
use borrow.Author.Tests.{le-leb, lt-leb, leb-true, ltb-true, leb-false, not-false}
use lib.Dec.{leb, ltb}
use lib.ListN.{length}
use Rattle.base.specs.Refusals.{IMAGE, BEYOND}
use Rattle.base.proofs.Booleans.{both_true, either_way}
use Rattle.base.proofs.Faults.{none_applies}
use Rattle.base.proofs.Refused.{first_uncut}
use Rattle.rom.specs.Bits.{image_limit, image_valid, image_fault}

-- what an image without fault 3 is
pub valid_length : (s : List ℕ) → image_valid s ≡ true → (0 < length s) × (length s ≤ image_limit)
valid_length s h =
    let t = both_true (ltb 0 (length s)) (leb (length s) image_limit) h in
    (ltb-true _ _ t.0, leb-true _ _ t.1)

module _ (s : List ℕ) {b : Bool} {n : ℕ} (e : n ≡ image_fault s b) (h : n ≡ 0) where
  -- a call without a fault has a valid image and a place that is not beyond its end
  pub no_fault : (image_valid s ≡ true) × (b ≡ false)
  no_fault =
      let r = none_applies ((not (image_valid s), IMAGE) ∷ (b, BEYOND) ∷ []) tt (sym e ∙ h) in
      (not-false _ r.0, r.1.0)

-- the same where the place is an address
pub in_image : (s : List ℕ) (a : ℕ) {n : ℕ} → n ≡ image_fault s (leb (length s) a) → n ≡ 0 → (a < length s) × (length s ≤ image_limit)
in_image s a e h = let f = no_fault s e h in (leb-false _ _ f.1, (valid_length s f.0).1)

-- such a fault tells of no cut frame
pub image_uncut : (s : List ℕ) (b : Bool) → image_fault s b < 10
image_uncut s b = first_uncut ((not (image_valid s), IMAGE) ∷ (b, BEYOND) ∷ []) (omega arith, (omega arith, tt))

-- a bit is at or past the end exactly when the byte that holds it is
pub bit_beyond : (s : List ℕ) (bit : ℕ) → leb (length s) (bit / 8) ≡ leb (8 * length s) bit
bit_beyond s bit =
    either_way (leb (length s) (bit / 8))
    (λ e. let h = leb-true (length s) (bit / 8) e in rw (e, le-leb (8 * length s) bit (omega arith)))
    (λ e. let h = leb-false (length s) (bit / 8) e in rw (e, lt-leb (8 * length s) bit (omega arith)))
