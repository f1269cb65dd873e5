-- The step that runs out tells what the walk tells.
-- Assumes nothing.
use mathlib.Core.Path.{◌≡◌, refl, sym, ap, ap₂, ◌∙◌, subst}
use mathlib.Core.Bool.{true, false, true≢false}
use mathlib.Core.List.{List, [], ◌++◌, map}
use Prim.Native.Nat.{ℕ, ◌*◌, ◌<◌}
use lib.Dec.{eqb}
use lib.ListN.{length}
use Rattle.base.specs.Refusals.{NO_PHRASE}
use Rattle.base.proofs.Booleans.{by_test}
use Rattle.rom.specs.Bits.{image_valid}
use Rattle.rom.specs.Frames.{pitch_width}
use Rattle.rom.specs.Items.{has_stop, There, phrase, none}
use Rattle.rom.specs.Phrases.{Walked}
use Rattle.rom.proofs.ItemLaws.{has_stop_lem}
use Rattle.reports.specs.Reports.{out_of_rom}
use Rattle.reports.specs.declared.Report.TheVariants.{RanOut}
use Rattle.reports.proofs.RanOut.{nothing_not_out}
use Rattle.rates.specs.Rates.{power_up_rate, rate_valid}
use Rattle.rates.specs.Form.{Item, item_code, plain, short_at}
use Rattle.rates.specs.Walks.{rated_walk_of}
use Rattle.rates.specs.Theorems.{RatedPhraseAt, ItemsThere}
use Rattle.rates.specs.declared.rate.FrameRate.{FrameRate}
use Rattle.rates.proofs.Rates.{rate_keeps}
use Rattle.rates.proofs.Plain.{plain_there}
use Rattle.rates.proofs.PlainRate.{rated_plain}
use Rattle.rates.proofs.Theorems.{rated_refuses}
use Rattle.schedule.specs.Types.{Told}
use Rattle.schedule.specs.Speech.{OnTime}
use Rattle.schedule.specs.Calls.{Call}
use Rattle.schedule.proofs.Due.{out_behind}
use Rattle.schedule.proofs.Answering.{stays_on_time}
use Rattle.control.specs.declared.device.Device.TheVariants.{Tms5220, Tms5220C}
use Rattle.speech.proofs.Boundaries.{rom_ends}
use Rattle.chip.specs.State.{power_up_5220c_with}
use Rattle.chip.specs.Step.{step_taken}
use Rattle.chip.specs.Write.{write_of}
use Rattle.chip.specs.declared.state.Chip.{Chip}
use Rattle.chip.specs.Types.{Stepped}
use Rattle.claims.specs.Device.{rated_form, fault_of, chip_on, chip_table}
use Rattle.claims.specs.Answers.{WritesRefused}
use Rattle.claims.specs.Demand3.{SpeakByte}
use Rattle.claims.specs.Opening.{Ready, opening_bytes}
use Rattle.claims.specs.Demand3Rated.{rate_after}
use Rattle.claims.specs.Shortfall.{after_calls, RunsOutAs, SameShortfall, SameShortfallRated}
use Rattle.claims.proofs.Answers.{step_by_voice}
use Rattle.claims.proofs.Moves.{moves, not_external}
use Rattle.claims.proofs.Opening.{opening, after_more}
use Rattle.claims.proofs.Instance.{Still, chip_speech, chip_speaks, speaking_chip, speaking_still, speaking_begins}
use Rattle.claims.proofs.Demand3Rated.{rate_after_valid}

module _ (image : List ℕ) (a : ℕ) (i : image_valid image ≡ true) (inside : a < length image) (r : FrameRate) (v : rate_valid r ≡ true)
    (is : List Item) (there : ItemsThere pitch_width r image a is) where
  -- items without a stop are no phrase
  no_phrase_lem : has_stop (item_code (rated_form r)) is ≡ false → There (item_code (rated_form r)) image (8 * a) is
      → (js : List Item) → RatedPhraseAt pitch_width r image a js → ⊥
  no_phrase_lem h (phrase p) = absurd (true≢false (sym (has_stop_lem p.ended) ∙ h))
  no_phrase_lem h (none n l) = n

  -- a step on a chip that has spoken for n steps
  module _ (c : Chip) (s : Still r c) (n : ℕ) (t : OnTime (rated_form r) image (8 * a) is n (chip_speech c)) where
    abbrev As : Stepped → Type 0
    As d =
        let w = rated_walk_of pitch_width r image a in
        d.report ≡ RanOut → (w.refusal ≡ NO_PHRASE) × (d.details ≡ out_of_rom w.short)

    taken : (voice : List ℕ) → As (step_taken image voice c)
    unfolding step_taken
    taken voice e =
        let k = c.control in
        let due = ap (λ (x : Told). x.report) (sym t.told ∙ sym (moves image r k s.calm).told) ∙ e in
        let behind = out_behind (rated_form r) (8 * a) (8 * length image) is n due in
        let refused = rated_refuses pitch_width r image a i v inside (no_phrase_lem behind.0 there) is there in
        let same = ap₂ (λ (x : FrameRate) (p : ℕ). short_at (rated_form x) image p) s.calm.rate (t.position ∙ behind.1) in (
          ap (λ (w : Walked). w.refusal) refused,
          rom_ends pitch_width image k (not_external k s.calm) e ∙ ap out_of_rom (same ∙ sym (ap (λ (w : Walked). w.short) refused)),
        )

    runs_out_lem : RunsOutAs image c (rated_walk_of pitch_width r image a)
    runs_out_lem voice =
        subst As (sym (step_by_voice image voice c i s.is_valid refl))
        (by_test As (eqb (fault_of voice) 0) (λ e. taken voice) (λ e h. absurd (nothing_not_out h)))

  -- after a list of calls on a chip that was ready and has taken Speak
  pub runs_out_after : (c : Chip) → Ready r a c → (s : SpeakByte) (xs : List Call) → WritesRefused (rated_form r) image a is 0 xs
      → RunsOutAs image (after_calls image (write_of image c s.byte).chip xs) (rated_walk_of pitch_width r image a)
  runs_out_after c ready s xs g =
      let t =
      stays_on_time (rated_form r) (rate_keeps r pitch_width) (chip_table image) image (chip_on image) chip_speech (Still r) (chip_speaks image i r) (8 * a) is there
      (speaking_chip image a i inside r c ready s) c.control.clock (speaking_still image a i inside r c ready s)
      (speaking_begins image a i inside r c ready s) xs g in
      runs_out_lem _ t.0 _ t.1

pub same_shortfall : SameShortfall
same_shortfall image a i inside o l s fs there xs g =
    let opens = opening image a i inside Tms5220 refl o [] [] tt tt in
    subst (RunsOutAs image _) (rated_plain pitch_width image a).walk
    (runs_out_after image a i inside power_up_rate refl (map plain fs) (plain_there pitch_width image a fs there) _ (opens l).1 s xs g)

pub same_shortfall_rated : SameShortfallRated
same_shortfall_rated image a i inside ls ms rs ts o l s is there xs g =
    let r = rate_after (ls ++ ms) in
    let opens = opening image a i inside (Tms5220C power_up_rate) refl o ls ms rs ts in
    subst (λ (c : Chip). RunsOutAs image (after_calls image c xs) (rated_walk_of pitch_width r image a))
    (sym (after_more image (power_up_5220c_with o) (opening_bytes ls l ms) s.byte))
    (runs_out_after image a i inside r (rate_after_valid (ls ++ ms)) is there _ (opens l).1 s xs g)
