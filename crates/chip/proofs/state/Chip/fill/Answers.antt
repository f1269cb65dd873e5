-- A step, what is left of an interval, or all that is left in silence: the buffer holds the samples of i steps, and the next has no fault.
use borrow.Author.Rules.{rules}
use mathlib.Core.Path.{◌≡◌, ◌∙◌}
use Prim.Native.Nat.{ℕ, ◌+◌, ◌-◌, ◌≤◌, ◌<◌, min}
use native.Mathlib.Omega.{arith}
use borrow.Rule.Slice.PartMut.{mid_of, mid_len}
use borrow.Author.Tests.{not-true}
use lib.ListN.{length}
use Rattle.base.proofs.Steps.{filled_more, filled_part}
use Rattle.chip.proofs.Ranges.{valid_clock}
use Rattle.chip.proofs.Stepping.{passed, sample_step_is}
use Rattle.chip.proofs.KeptValid.{goes_on}
use Rattle.chip.proofs.Playing.{left_few, silenced, played}
use Rattle.chip.proofs.state.Chip.fill.Goals as goal

-- what is played at once is a sample or more, within the interval and within the buffer
part : {whole left taken i n : ℕ} → left ≡ whole → (left ≡ 0 → ⊥) → taken ≡ min left (n - i) → i < n
    → (1 ≤ whole) × (taken ≤ whole) × (1 ≤ taken) × (i + taken ≤ n)
part e some t h = omega arith

pub samples_left-left-requires : goal.samples_left-left-requires
samples_left-left-requires c =
    (valid_clock c.loop-i.chip (passed _ _ c.loop-i.chip c.loop-i.invariant.holds).chip_valid).0

pub loop-i-preserved-then-not-chip : goal.loop-i-preserved-then-not-chip
loop-i-preserved-then-not-chip c =
    let e = length c.loop-i.out in
    let p = silenced c.args.image.now c.args.voice.now (length (mid_of c.loop-i.i (e - c.loop-i.i) c.loop-i.out)) c.loop-i.chip c.loop-i.invariant.holds (not-true _ c.if-not-chip.true) in
    filled_part _ _ _ c.loop-i.invariant e (omega arith) (omega (arith, c.loop-i.invariant.size)) (c.keep_silent-chip.ensures.value ∙ p.state) (c.keep_silent-chip.ensures.out_after ∙ p.samples) (rw c.keep_silent-chip.ensures.value p.faultless)

pub loop-i-preserved-then-left-eq0 : goal.loop-i-preserved-then-left-eq0
loop-i-preserved-then-left-eq0 c =
    filled_more _ _ _ c.loop-i.invariant (omega arith) (sample_step_is c.args.image.now c.args.voice.now c.loop-i.chip c.loop-i.invariant.holds c.take_step-stepped.ensures (search rules))
    (goes_on c.args.image.now c.args.voice.now c.loop-i.chip c.loop-i.invariant.holds c.take_step-stepped.ensures)

pub play_on-chip-requires : goal.play_on-chip-requires
play_on-chip-requires c =
    let b = part c.samples_left-left.ensures c.if-left-eq0.false c.min.ensures c.loop-i-test.true in
    let k = mid_len c.loop-i.i (c.loop-i.i + c.min.result) c.loop-i.out b.3 in
    ((passed _ _ c.loop-i.chip c.loop-i.invariant.holds).chip_valid, omega (arith, k, b, left_few c.loop-i.chip.control.clock))

pub loop-i-preserved : goal.loop-i-preserved
loop-i-preserved c =
    let b = part c.samples_left-left.ensures c.if-left-eq0.false c.min.ensures c.loop-i-test.true in
    let e = c.loop-i.i + c.min.result in
    let k = mid_len c.loop-i.i e c.loop-i.out b.3 in
    let p = played c.args.image.now c.args.voice.now (length (mid_of c.loop-i.i (e - c.loop-i.i) c.loop-i.out)) c.loop-i.chip c.loop-i.invariant.holds b.0 (omega (arith, k, b)) in
    filled_part _ _ _ c.loop-i.invariant e (omega arith) (omega (arith, b, c.loop-i.invariant.size)) (c.play_on-chip.ensures.value ∙ p.state) (c.play_on-chip.ensures.out_after ∙ p.samples) (rw c.play_on-chip.ensures.value p.faultless)
