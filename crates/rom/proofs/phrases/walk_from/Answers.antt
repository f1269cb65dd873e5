use mathlib.Core.Path.{refl, sym, ◌∙◌}
use native.Mathlib.Omega.{arith}
use Rattle.rom.proofs.Walking.{come_cut, come_stop, come_on, further, kept_is}
use Rattle.rom.proofs.phrases.walk_from.Goals as goal

pub returns-in_default : goal.returns-in_default
returns-in_default g c =
    let i = c.loop-frame.invariant in
    let read = c.frame_in-answer.ensures _ (c.head_of-head.ensures _ _ c.narrow_at.ensures) c.wide_at-window.ensures refl in
    come_cut _ i.1 i.0.0 c.field_at-bits.ensures (rw i.0.1 at read) c.unwrap_err.ensures

pub overflow_sub-at : goal.overflow_sub-at
overflow_sub-at g c =
    let i = c.loop-frame.invariant in
    let read = c.frame_in-answer.ensures _ (c.head_of-head.ensures _ _ c.narrow_at.ensures) c.wide_at-window.ensures refl in
    omega (arith, (further _ i.1 i.0.0 c.field_at-bits.ensures (rw i.0.1 at read) c.in-Ok.is), i.1.passed)

pub returns-then-is_stop : goal.returns-then-is_stop
returns-then-is_stop g c =
    let i = c.loop-frame.invariant in
    let read = c.frame_in-answer.ensures _ (c.head_of-head.ensures _ _ c.narrow_at.ensures) c.wide_at-window.ensures refl in
    let F = g.F.FrameForm.form c.args.form in
    c.extent_of.ensures
    ∙ rw (c.count-skipped.ensures, c.skipped.ensures, ← kept_is F c.loop-frame.count c.in-Ok.frame c.field_at-bits.result (g.met.F.FrameForm.keeps_some c.args.form) i.0.2)
    (come_stop F i.1 i.0.0 c.field_at-bits.ensures (rw i.0.1 at read) c.in-Ok.is (sym c.is_stop.ensures ∙ c.if-is_stop.true))

pub loop-frame-smaller : goal.loop-frame-smaller
loop-frame-smaller g c =
    let i = c.loop-frame.invariant in
    let read = c.frame_in-answer.ensures _ (c.head_of-head.ensures _ _ c.narrow_at.ensures) c.wide_at-window.ensures refl in
    omega (arith, (further _ i.1 i.0.0 c.field_at-bits.ensures (rw i.0.1 at read) c.in-Ok.is))

pub loop-frame-preserved : goal.loop-frame-preserved
loop-frame-preserved g c =
    let i = c.loop-frame.invariant in
    let read = c.frame_in-answer.ensures _ (c.head_of-head.ensures _ _ c.narrow_at.ensures) c.wide_at-window.ensures refl in
    let F = g.F.FrameForm.form c.args.form in
    let keeps = g.met.F.FrameForm.keeps_some c.args.form in
    let e = kept_is F c.loop-frame.count c.in-Ok.frame c.field_at-bits.result keeps i.0.2 in (
      (i.0.0, i.0.1, rw (c.count-skipped.ensures, c.skipped.ensures) (omega (arith, i.0.2, keeps c.field_at-bits.result))),
      rw (c.count-skipped.ensures, c.skipped.ensures, ← e)
          (come_on F i.1 i.0.0 c.field_at-bits.ensures (rw i.0.1 at read) c.in-Ok.is (sym c.is_stop.ensures ∙ c.if-is_stop.false)),
    )
