-- In demand 3's list the step that runs out tells what the walk tells: where the cut frame begins, and how many bits it lacks (02, §4).
use Rattle.std.specs.Prelude.{◌≡◌, true, List, ◌++◌, ℕ, ◌<◌, length}
use Rattle.base.specs.Refusals.{NO_PHRASE}
use Rattle.rom.specs.Bits.{image_valid}
use Rattle.rom.specs.Frames.{pitch_width}
use Rattle.rom.specs.Phrases.{FramesThere, walk_of}
use Rattle.rom.specs.declared.frames.Frame.{Frame}
use Rattle.rom.specs.Phrases.{Walked}
use Rattle.reports.specs.Reports.{out_of_rom}
use Rattle.reports.specs.declared.Report.TheVariants.{RanOut}
use Rattle.rates.specs.Form.{Item}
use Rattle.rates.specs.Walks.{rated_walk_of}
use Rattle.rates.specs.Theorems.{ItemsThere}
use Rattle.schedule.specs.Calls
use Rattle.schedule.specs.Calls.{Call}
use Rattle.fifo.specs.declared.BitOrder.{BitOrder}
use Rattle.chip.specs.Step.{step_of}
use Rattle.chip.specs.declared.state.Chip.{Chip}
use Rattle.claims.specs.Device.{rated_form, chip_on}
use Rattle.claims.specs.Answers
use Rattle.claims.specs.Demand3.{Loads, SpeakByte, speaking, WritesRefused}
use Rattle.claims.specs.Opening.{RateBytes}
use Rattle.claims.specs.Demand3Rated.{rate_after, speaking_rated}

-- the chip that a list of calls hands back: each call gets the chip that the last one handed back, and the same image
abbrev pub after_calls : List ℕ → Chip → List Call → Chip
after_calls image = Calls.after_calls (chip_on image)

-- where a step on the chip c runs out, the walk w is refused with 10, and the step gives its two numbers and no others
abbrev pub RunsOutAs : List ℕ → Chip → Walked → Type 0
RunsOutAs image c w =
    (voice : List ℕ) → (step_of image voice c).report ≡ RanOut
    → (w.refusal ≡ NO_PHRASE) × ((step_of image voice c).details ≡ out_of_rom w.short)

-- For every valid image and every byte address in it, after every list of calls of demand 3.
abbrev pub SameShortfall : Type 0
SameShortfall =
    (image : List ℕ) (a : ℕ) → image_valid image ≡ true → a < length image
    → (o : BitOrder) (l : Loads a) (s : SpeakByte) (fs : List Frame) → FramesThere pitch_width image a fs
    → (xs : List Call) → WritesRefused image a fs 0 xs
    → RunsOutAs image (after_calls image (speaking image o l s) xs) (walk_of pitch_width image a)

-- And for the TMS5220C, with Load Frame Rate bytes before and after the loads.
abbrev pub SameShortfallRated : Type 0
SameShortfallRated =
    (image : List ℕ) (a : ℕ) → image_valid image ≡ true → a < length image → (ls ms : List ℕ) → RateBytes ls → RateBytes ms
    → let r = rate_after (ls ++ ms) in
    (o : BitOrder) (l : Loads a) (s : SpeakByte) (is : List Item) → ItemsThere pitch_width r image a is
    → (xs : List Call) → Answers.WritesRefused (rated_form r) image a is 0 xs
    → RunsOutAs image (after_calls image (speaking_rated image o ls l ms s) xs) (rated_walk_of pitch_width r image a)
