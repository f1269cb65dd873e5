-- Its text, by its kind.
use Rattle.std.proofs.Common.{◌≡◌, ◌≤◌, ◌++◌, length, Option, Some, None, ◌∙◌, arith}
use Rattle.rom.specs.Frames.{numbers_of}
use Rattle.rom.specs.declared.frames.Frame.{Frame}
use Rattle.rom.specs.declared.frames.Frame.TheVariants.{Silence, Stop, Repeat, Unvoiced, Voiced}
use Rattle.lister.specs.Text.{codes, decimal, contents, appended}
use Rattle.lister.specs.Lines.{frame_line}
use Rattle.lister.proofs.Texts.{Holds, holds_nothing, holds_more, appended_twice}
use Rattle.lister.proofs.FrameLines.{frame_text, frame_line_held, found}
use Rattle.lister.proofs.lines.frame_line.Goals.{in-None, in-Some-Silence, in-Some-Stop, in-Some-Repeat, in-Some-Unvoiced, in-Some-Voiced}
use Rattle.lister.proofs.lines.frame_line.Goals as goal

pub returns : goal.returns
returns c =
    let begun : Holds c.with_byte-t.result (decimal c.args.first ++ codes " ") =
    holds_more _ (holds_more _ (holds_nothing c.empty.ensures) c.with_number.ensures) c.with_byte-t.ensures in
    let line = λ (f : Option Frame) (e : c.args.frame ≡ f) (t : contents c.match-frame.t ≡ appended c.with_byte-t.result (frame_text f)) (l : length (frame_text f) ≤ 58).
    let is : contents c.with_byte.result ≡ frame_line c.args.first (numbers_of c.args.frame) =
    rw e (frame_line_held f c.with_byte.result c.ranges.first.fits (holds_more _ begun t) l c.with_byte.ensures) in
    is in
    elim c.match-frame.branch [
      | in-None w ↦ line None w.in-None.is (rw w.t-is w.with_word-t.ensures) (omega arith)
      | in-Some-Silence w ↦ line (Some Silence) (found w.in-Some-Silence.is (rw w.in-Some-Silence.is at w.in-Some-Silence.field-0-is)) (rw w.t-is w.with_word-t-in-Some-Silence.ensures) (omega arith)
      | in-Some-Stop w ↦ line (Some Stop) (found w.in-Some-Stop.is (rw w.in-Some-Stop.is at w.in-Some-Stop.field-0-is)) (rw w.t-is w.with_word-t-in-Some-Stop.ensures) (omega arith)
      | in-Some-Repeat w ↦
          let i = w.in-Some-Repeat in
          let k = w.with_indexes-t.ensures in
          line (Some (Repeat i.energy i.pitch)) (found i.is (rw i.is at i.field-0-is)) (rw w.t-is (k.value ∙ appended_twice _ _ _ _ w.with_word.ensures)) (omega (arith, k.short))
      | in-Some-Unvoiced w ↦
          let i = w.in-Some-Unvoiced in
          let k = w.with_indexes-t-in-Some-Unvoiced.ensures in
          line (Some (Unvoiced i.energy i.k1 i.k2 i.k3 i.k4)) (found i.is (rw i.is at i.field-0-is)) (rw w.t-is (k.value ∙ appended_twice _ _ _ _ w.with_word-in-Some-Unvoiced.ensures)) (omega (arith, k.short))
      | in-Some-Voiced w ↦
          let i = w.in-Some-Voiced in
          let k = w.with_indexes-t-in-Some-Voiced.ensures in
          line (Some (Voiced i.energy i.pitch i.k1 i.k2 i.k3 i.k4 i.k5 i.k6 i.k7 i.k8 i.k9 i.k10)) (found i.is (rw i.is at i.field-0-is)) (rw w.t-is (k.value ∙ appended_twice _ _ _ _ w.with_word-in-Some-Voiced.ensures)) (omega (arith, k.short))
    ]
