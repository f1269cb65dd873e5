-- The filter's forward value, clamped, is an i16 as it is.
use mir.Syntax.{w16}
use Rattle.base.specs.Range.{Between}
use Rattle.base.proofs.Range.{fits_at, read, read_at, product, back, clamped_between}
use Rattle.sound.proofs.Samples.{input_range}
use Rattle.sound.proofs.sample.filtered.Goals as goal

pub overflow_cast-result : goal.overflow_cast-result
overflow_cast-result c =
    let range : Between 512 511 c.clamp.result = rw c.clamp.ensures (clamped_between 512 511 _) in
    rw (back c.clamp.result c.clamp.type_inv) (fits_at w16 tt range)

pub returns : goal.returns
returns c =
    let p = c.requires in
    let f = c.filter in
    let h = c.clamp in
    let range : Between 512 511 h.result = rw h.ensures (clamped_between 512 511 _) in
    let is = simp (read tt p.2, read tt p.3, read tt (product p.2 p.3), read tt (input_range p.2 p.3)) at f.ensures.value in
    record {
      value = rw (back h.result h.type_inv, read_at w16 tt range) (rw (back f.result f.type_inv, is) at h.ensures);
      memory_after = simp (read tt p.2, read tt p.3, read tt (product p.2 p.3), read tt (input_range p.2 p.3)) at f.ensures.memory_after;
    }
