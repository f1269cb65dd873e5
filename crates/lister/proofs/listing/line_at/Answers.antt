-- The frame that is taken, in its line.
use Rattle.std.proofs.Common.{ap, refl, arith}
use Rattle.rom.specs.Reader.{FrameTaken}
use Rattle.lister.specs.Listing.{line_at, after}
use Rattle.lister.proofs.FrameBits.{next_fits}
use Rattle.lister.proofs.listing.line_at.Goals as goal

pub overflow_add-result : goal.overflow_add-result
overflow_add-result c =
    let bits = ap (λ (t : FrameTaken). t.bits) c.in-Ok.ensures.value in
    rw bits (record { fits = next_fits _ _ c.ranges.bit.fits })

pub returns-in-Ok : goal.returns-in-Ok
unfolding line_at after
returns-in-Ok c = rw (← c.in-Ok.ensures.value) (c.frame_line.ensures, refl)

pub returns-in-Err : goal.returns-in-Err
unfolding line_at after
returns-in-Err c = rw (← c.in-Err.ensures.value) (c.frame_line-in-Err.ensures, omega arith)
