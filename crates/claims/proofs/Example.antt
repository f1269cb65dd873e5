-- The examples of demand 3, computed.
-- Assumes nothing.
use mathlib.Core.Path.{◌≡◌, refl, ◌∙◌}
use mathlib.Core.Bool.{true}
use Prim.Native.Nat.{◌<◌}
use native.Mathlib.Omega.{arith}
use borrow.Author.Tests.{eqb-false}
use lib.ListN.{length}
use Rattle.rom.specs.Bits.{bit, field, digits, image_valid}
use Rattle.rom.specs.Frames.{pitch_width}
use Rattle.rom.specs.Reader.{decoded, frame_from}
use Rattle.rom.specs.Items.{items_from}
use Rattle.rom.specs.Phrases.{frames_at}
use Rattle.rom.proofs.Theorems.{frames_read}
use Rattle.schedule.specs.Schedule.{due_from, end_from, told_from}
use Rattle.schedule.specs.Calls
use Rattle.voice.specs.Layout.{twos_complement}
use Rattle.voice.specs.Check.{entries_valid, voice_fault}
use Rattle.fifo.specs.declared.BitOrder.TheVariants.{LeastFirst}
use Rattle.claims.specs.Demand3.{answers_due, WritesRefused}
use Rattle.voice.specs.Example.{voice}
use Rattle.claims.specs.Example.{loads, speak, Example, phrase, no_phrase, Holds}
use Rattle.claims.proofs.Demand3.{demand_3}

-- an example holds where its frames, its refusals and its answers compute
holds : (e : Example) → image_valid e.image ≡ true → 0 < length e.image → frames_at pitch_width e.image 0 ≡ e.frames
    → WritesRefused e.image 0 e.frames 0 e.calls → answers_due e.image 0 e.frames 0 e.calls ≡ e.answers → Holds e
holds e i inside f g h =
    let there = (frames_read pitch_width e.image 0 e.frames inside).1 f in
    record {
      there = there;
      refused = g;
      due = h;
      given = (demand_3 e.image 0 i inside).calls LeastFirst loads speak e.frames there e.calls g ∙ h;
    }

pub phrase_holds : Holds phrase
unfolding items_from frame_from decoded field bit Calls.WritesRefused Calls.answers_due due_from end_from told_from voice voice_fault entries_valid twos_complement digits
phrase_holds =
    holds phrase refl (omega arith) refl (tt, (eqb-false _ 0 refl, (tt, (tt, (tt, (tt, (tt, (tt, (tt, (tt, (tt, (eqb-false _ 0 refl, (tt, (tt, tt)))))))))))))) refl

pub no_phrase_holds : Holds no_phrase
unfolding items_from frame_from decoded field bit Calls.WritesRefused Calls.answers_due due_from end_from told_from voice voice_fault entries_valid twos_complement digits
no_phrase_holds = holds no_phrase refl (omega arith) refl (tt, (tt, (tt, (tt, (eqb-false _ 0 refl, (tt, tt)))))) refl
