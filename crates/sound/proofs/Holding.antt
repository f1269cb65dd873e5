-- What it means that a frame holds: nothing moves before interval 7, and there the currents are the targets.
-- Assumes nothing.
use mathlib.Core.Path.{◌≡◌, refl, sym, ap, ap₂, ◌∙◌}
use mathlib.Core.Bool.{Bool, true, false, not, ◌&&◌, ◌||◌}
use mathlib.Core.List.{List, [], ◌∷◌, zip_with}
use Prim.Native.Nat.{ℕ}
use native.Mathlib.Omega.{arith}
use borrow.Author.Tests.{lt-ltb}
use lib.IntN.{ℤ, pos, negsuc, ◌-ℤ◌, +ℤ_comm, -ℤ-+ℤ_cancel}
use lib.ListN.{length}
use lib.Signed.{shr_z}
use Rattle.sound.specs.Interpolation.{toward_by, arrival, interpolated}
use Rattle.sound.specs.Laws.{HoldsStill, Reaches, SilenceNeverHolds, FirstFrameHolds}
use Rattle.sound.specs.Targets.{is_voiced, is_mute}
use Rattle.sound.specs.declared.state.Sound.{Sound}
use Rattle.sound.proofs.Validity.{ranges}

pub holds_still : HoldsStill
unfolding interpolated
holds_still interval s h l = rw (lt-ltb interval.0 arrival l, h)

-- ---- a difference divided by 1 is all of it

by_one : (z : ℤ) → shr_z z 1 ≡ z
by_one (pos a) = ap pos (omega arith)
by_one (negsuc a) = ap negsuc (omega arith)

all_the_way : (c t : ℤ) → toward_by 1 c t ≡ t
all_the_way c t = rw (by_one (t -ℤ c)) (+ℤ_comm c (t -ℤ c) ∙ -ℤ-+ℤ_cancel t c)

each_all_the_way : (a b : List ℤ) → length a ≡ length b → zip_with (toward_by 1) a b ≡ b
unfolding zip_with
each_all_the_way [] [] e = refl
each_all_the_way [] (y ∷ b) e = absurd (omega arith)
each_all_the_way (x ∷ a) [] e = absurd (omega arith)
each_all_the_way (x ∷ a) (y ∷ b) e = ap₂ ◌∷◌ (all_the_way x y) (each_all_the_way a b (omega arith))

pub reaches : Reaches
unfolding interpolated
reaches s h =
    let r = ranges s h in
    let c = s.current in
    let t = s.target in
    rw (
      all_the_way c.energy t.energy,
      all_the_way c.pitch t.pitch,
      each_all_the_way c.k t.k (r.current.k.size ∙ sym r.target.k.size),
    )

-- ---- when a frame holds

-- the voicing does not change where the pitch is kept, nor does the energy start where it is 0
kept_pitch : (b mute : Bool) → ((b && not b) || (not b && b) || (mute && not true)) ≡ false
kept_pitch true true = refl
kept_pitch true false = refl
kept_pitch false true = refl
kept_pitch false false = refl

pub silence_never_holds : (P : ℕ) (file : List ℕ) (s : Sound) → SilenceNeverHolds P file s
silence_never_holds P file s =
    let no = kept_pitch (is_voiced s.target) (is_mute s.target) in
    record { silence = no; stop = no }

pub first_frame_holds : FirstFrameHolds
first_frame_holds new = refl
