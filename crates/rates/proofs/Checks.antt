-- The checks of a call told a rate.
-- Assumes nothing.
use mathlib.Core.Path.{◌≡◌, sym, ◌∙◌}
use mathlib.Core.Bool.{Bool, true, false, not}
use mathlib.Core.List.{List, [], ◌∷◌}
use Prim.Native.Nat.{ℕ, ◌≤◌, ◌<◌}
use borrow.Author.Tests.{leb-false, not-false}
use lib.Dec.{leb}
use lib.ListN.{length}
use Rattle.base.specs.Refusals.{BEYOND, IMAGE, STATE}
use native.Mathlib.Omega.{arith}
use Rattle.base.proofs.Faults.{none_applies}
use Rattle.base.proofs.Refused.{first_uncut}
use Rattle.rom.specs.Bits.{image_limit, image_valid}
use Rattle.rom.proofs.Checks.{valid_length}
use Rattle.rates.specs.Rates.{rate_valid}
use Rattle.rates.specs.Walks.{rate_fault}
use Rattle.rates.specs.declared.rate.FrameRate.{FrameRate}

-- a call without a fault has a valid image, a rate in range and a place that is not beyond the image's end
pub no_rate_fault : (s : List ℕ) (r : FrameRate) {b : Bool} {n : ℕ} → n ≡ rate_fault s r b → n ≡ 0
    → (image_valid s ≡ true) × (rate_valid r ≡ true) × (b ≡ false)
no_rate_fault s r {b} e h =
    let f = none_applies ((not (image_valid s), IMAGE) ∷ (not (rate_valid r), STATE) ∷ (b, BEYOND) ∷ []) tt (sym e ∙ h) in
    (not-false _ f.0, not-false _ f.1.0, f.1.1.0)

-- the same where the place is an address
pub in_image : (s : List ℕ) (r : FrameRate) (a : ℕ) {n : ℕ} → n ≡ rate_fault s r (leb (length s) a) → n ≡ 0
    → (a < length s) × (length s ≤ image_limit)
in_image s r a e h = let f = no_rate_fault s r e h in (leb-false _ _ f.2, (valid_length s f.0).1)

-- such a fault tells of no cut frame
pub rate_uncut : (s : List ℕ) (r : FrameRate) (b : Bool) → rate_fault s r b < 10
rate_uncut s r b =
    first_uncut ((not (image_valid s), IMAGE) ∷ (not (rate_valid r), STATE) ∷ (b, BEYOND) ∷ [])
    (omega arith, (omega arith, (omega arith, tt)))
