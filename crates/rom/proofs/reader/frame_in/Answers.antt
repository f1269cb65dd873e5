use mathlib.Core.Path.{◌∙◌}
use native.Mathlib.Omega.{arith}
use Rattle.rom.proofs.Decoding.{kind_decoded, kind_length, whole_is, cut_is}
use Rattle.rom.proofs.reader.frame_in.Goals as goal

pub returns-then-end-next : goal.returns-then-end-next
returns-then-end-next c =
    λ s h w e. cut_is _ _ _ _ ((c.kind_bits.ensures ∙ kind_length _ _ _ h c.kind_of-kind.ensures)) e c.cut_at.ensures c.if-end-next.true

pub returns : goal.returns
returns c =
    λ s h w e. whole_is _ _ _ _ ((c.kind_bits.ensures ∙ kind_length _ _ _ h c.kind_of-kind.ensures)) (c.frame_of.ensures _ _ w ∙ kind_decoded _ _ _ h c.kind_of-kind.ensures) (omega (arith, c.if-end-next.false))
