-- Demand 3 holds.
-- Assumes nothing.
use mathlib.Core.Path.{◌≡◌, refl, sym, ap, ap₂, ◌∙◌}
use mathlib.Core.List.{List, [], ◌∷◌, ◌++◌, map}
use Prim.Native.Nat.{ℕ, ◌+◌, ◌*◌, ◌≤◌}
use lib.ListN.{length}
use Rattle.rom.specs.Frames.{pitch_width}
use Rattle.rom.specs.Phrases.{PhraseAt, frames_at}
use Rattle.rom.specs.declared.frames.Frame.{Frame}
use Rattle.rom.specs.Phrases.{Walked}
use Rattle.rom.proofs.Theorems.{walk_accepts, walk_counts, phrase_unique, frames_read}
use Rattle.rates.specs.Rates.{power_up_rate}
use Rattle.rates.specs.Form.{plain}
use Rattle.rates.proofs.Plain.{plain_bits, plain_ended, plain_there}
use Rattle.schedule.proofs.Due.{just_after}
use Rattle.control.specs.declared.device.Device.TheVariants.{Tms5220}
use Rattle.claims.specs.Device.{chip_form}
use Rattle.claims.specs.Demand3.{total_bits, end_step, position_due, Demand3}
use Rattle.claims.proofs.Opening.{opening}
use Rattle.claims.proofs.Instance.{core}

ends_past : (image : List ℕ) (a : ℕ) {fs : List Frame} → PhraseAt pitch_width image a fs → (n : ℕ) → end_step fs ≤ n
    → position_due image a fs n ≡ 8 * a + total_bits fs
ends_past image a {fs} p n h =
    just_after chip_form (8 * a) (8 * length image) (map plain fs) (plain_ended pitch_width p.ended) n h
    ∙ ap (λ (bs : List ℕ). 8 * a + length bs) (plain_bits pitch_width fs)

pub demand_3 : Demand3
demand_3 image a i inside =
    let opens = opening image a i inside Tms5220 refl in
    record {
      accepts = let w = walk_accepts pitch_width image a in (λ h. (w.0 h).1, λ p. w.1 (i, p));
      counts = λ fs p. walk_counts pitch_width image a fs i p;
      one_phrase = phrase_unique pitch_width image a;
      frames_exist = (frames_at pitch_width image a, (frames_read pitch_width image a _ inside).1 refl);
      frames_unique = λ fs gs p q. sym ((frames_read pitch_width image a fs inside).0 p) ∙ (frames_read pitch_width image a gs inside).0 q;
      opened = λ o l s. ap₂ (λ (ns : List ℕ) (n : ℕ). ns ++ (n ∷ [])) (opens o [] [] tt tt l).0 (core image a i inside power_up_rate _ (opens o [] [] tt tt l).1 s).0;
      calls = λ o l s fs there. (core image a i inside power_up_rate _ (opens o [] [] tt tt l).1 s).1 (map plain fs) (plain_there pitch_width image a fs there);
      same_end = λ fs p n h. ends_past image a p n h ∙ ap (λ (w : Walked). 8 * a + w.bits) (sym (walk_counts pitch_width image a fs i p));
    }
