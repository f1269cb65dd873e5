-- Demand 3 holds for the TMS5220C.
-- Assumes nothing.
use mathlib.Core.Path.{◌≡◌, refl, sym, ap, ◌∙◌, subst}
use mathlib.Core.Bool.{true}
use mathlib.Core.List.{List, ◌++◌}
use Prim.Native.Nat.{ℕ, ◌+◌, ◌*◌}
use lib.ListN.{length}
use Rattle.rom.specs.Frames.{pitch_width}
use Rattle.rom.specs.Phrases.{Walked}
use Rattle.rates.specs.Rates.{power_up_rate, rate_valid}
use Rattle.rates.specs.Walks.{items_at}
use Rattle.rates.proofs.Theorems.{rated_accepts, rated_counts, rated_unique, rated_there}
use Rattle.schedule.proofs.Due.{just_after}
use Rattle.control.specs.Device.{device_valid, rate_of}
use Rattle.control.specs.declared.device.Device.{Device}
use Rattle.control.specs.declared.device.Device.TheVariants.{Tms5220, Tms5220C}
use Rattle.chip.specs.State.{power_up_5220c_with}
use Rattle.claims.specs.Device.{rated_form}
use Rattle.claims.specs.Answers.{AnswersDue}
use Rattle.claims.specs.Opening.{device_after, opening_bytes}
use Rattle.claims.specs.Demand3Rated.{rate_after, Demand3Rated}
use Rattle.claims.proofs.Opening.{opening, after_valid, after_more, refusals_more}
use Rattle.claims.proofs.Instance.{core}

-- a valid device's rate is in its ranges
rate_valid_lem : (d : Device) → device_valid d ≡ true → rate_valid (rate_of d) ≡ true
rate_valid_lem Tms5220 v = refl
rate_valid_lem (Tms5220C r) v = v

-- and so is the rate that bytes of Load Frame Rate leave
pub rate_after_valid : (bs : List ℕ) → rate_valid (rate_after bs) ≡ true
rate_after_valid bs = rate_valid_lem (device_after (Tms5220C power_up_rate) bs) (after_valid (Tms5220C power_up_rate) bs refl)

pub demand_3_rated : Demand3Rated
demand_3_rated image a i inside ls ms rs ts =
    let r = rate_after (ls ++ ms) in
    let valid = rate_after_valid (ls ++ ms) in
    let opens = opening image a i inside (Tms5220C power_up_rate) refl in
    let speaks = core image a i inside r in
    record {
      accepts = let w = rated_accepts pitch_width r image a in (λ h. (w.0 h).2, λ p. w.1 (i, valid, p));
      counts = λ is p. rated_counts pitch_width r image a is i valid p;
      one_phrase = rated_unique pitch_width r image a;
      items_exist = (items_at (rated_form r) image a, (rated_there pitch_width r image a _ inside).1 refl);
      items_unique = λ is js p q. sym ((rated_there pitch_width r image a is inside).0 p) ∙ (rated_there pitch_width r image a js inside).0 q;
      opened = λ o l s. refusals_more image (power_up_5220c_with o) (opening_bytes ls l ms) s.byte (opens o ls ms rs ts l).0 (speaks _ (opens o ls ms rs ts l).1 s).0;
      calls = λ o l s is there.
          subst (AnswersDue (rated_form r) image a is) (sym (after_more image (power_up_5220c_with o) (opening_bytes ls l ms) s.byte)) ((speaks _ (opens o ls ms rs ts l).1 s).1 is there);
      same_end = λ is p n h.
          just_after (rated_form r) (8 * a) (8 * length image) is p.ended n h ∙ ap (λ (w : Walked). 8 * a + w.bits) (sym (rated_counts pitch_width r image a is i valid p));
    }
