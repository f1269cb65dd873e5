-- Running out is another report than nothing and than a frame's.
-- Assumes nothing.
use mathlib.Core.Path.{◌≡◌, ap}
use Prim.Native.Nat.{◌<◌}
use native.Mathlib.Omega.{arith}
use Rattle.base.proofs.Booleans.{by_test}
use Rattle.rom.specs.Frames.{is_stop}
use Rattle.rom.specs.declared.frames.Frame.{Frame}
use Rattle.reports.specs.Types.{Report, NoReport, FrameReport, StopReport, RanOut}
use Rattle.reports.specs.Reports.{report_number, frame_report}

-- by its number, which is 3
not_out : (r : Report) → report_number r < 3 → r ≡ RanOut → ⊥
not_out r h e = let n : report_number r ≡ 3 = ap report_number e in absurd (omega arith)

pub nothing_not_out : NoReport ≡ RanOut → ⊥
nothing_not_out = not_out NoReport (omega arith)

pub frame_not_out : (f : Frame) → frame_report f ≡ RanOut → ⊥
frame_not_out f =
    by_test (λ r. r ≡ RanOut → ⊥) (is_stop f) (λ k. not_out StopReport (omega arith)) (λ k. not_out (FrameReport f) (omega arith))
