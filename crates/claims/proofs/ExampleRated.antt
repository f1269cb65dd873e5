-- The examples of demand 3 for the TMS5220C, computed.
-- Assumes nothing.
use mathlib.Core.Path.{◌≡◌, refl, ◌∙◌}
use mathlib.Core.Bool.{true}
use Prim.Native.Nat.{◌<◌}
use native.Mathlib.Omega.{arith}
use borrow.Author.Tests.{eqb-false}
use lib.ListN.{length}
use Rattle.rom.specs.Bits.{bit, field, digits, image_valid}
use Rattle.rom.specs.Frames.{pitch_width}
use Rattle.rom.specs.Reader.{decoded, frame_from}
use Rattle.rom.specs.Items.{items_from}
use Rattle.rates.specs.Walks.{items_at}
use Rattle.rates.proofs.Theorems.{rated_there}
use Rattle.schedule.specs.Schedule.{due_from, end_from, told_from}
use Rattle.schedule.specs.Calls
use Rattle.voice.specs.Layout.{twos_complement}
use Rattle.voice.specs.Check.{entries_valid, voice_fault}
use Rattle.fifo.specs.declared.BitOrder.TheVariants.{LeastFirst}
use Rattle.claims.specs.Device.{rated_form}
use Rattle.claims.specs.Answers.{answers_due, WritesRefused}
use Rattle.claims.specs.Opening.{RateBytes}
use Rattle.voice.specs.Example.{voice}
use Rattle.claims.specs.Example.{loads, speak}
use Rattle.claims.specs.ExampleRated.{RatedExample, variable, fixed, example_rate, RatedHolds}
use Rattle.claims.proofs.Demand3Rated.{demand_3_rated}

-- an example holds where its items, its refusals and its answers compute
holds : (e : RatedExample) → image_valid e.image ≡ true → 0 < length e.image → RateBytes e.before → RateBytes e.after
    → items_at (rated_form (example_rate e)) e.image 0 ≡ e.items
    → WritesRefused (rated_form (example_rate e)) e.image 0 e.items 0 e.calls
    → answers_due (rated_form (example_rate e)) e.image 0 e.items 0 e.calls ≡ e.answers → RatedHolds e
holds e i inside ls ms f g h =
    let there = (rated_there pitch_width (example_rate e) e.image 0 e.items inside).1 f in
    record {
      there = there;
      refused = g;
      due = h;
      given = (demand_3_rated e.image 0 i inside e.before e.after ls ms).calls LeastFirst loads speak e.items there e.calls g ∙ h;
    }

pub variable_holds : RatedHolds variable
unfolding items_from frame_from decoded field bit Calls.WritesRefused Calls.answers_due due_from end_from told_from voice voice_fault entries_valid twos_complement digits
variable_holds =
    holds variable refl (omega arith) (refl, tt) (refl, (refl, tt)) refl
    (tt, (eqb-false _ 0 refl, (tt, (tt, (tt, (tt, (tt, (tt, (tt, (tt, (eqb-false _ 0 refl, (tt, tt)))))))))))) refl

pub fixed_holds : RatedHolds fixed
unfolding items_from frame_from decoded field bit Calls.WritesRefused Calls.answers_due due_from end_from told_from voice voice_fault entries_valid twos_complement digits
fixed_holds = holds fixed refl (omega arith) (refl, tt) (refl, tt) refl (tt, (tt, (tt, (tt, (tt, (tt, (tt, tt))))))) refl
