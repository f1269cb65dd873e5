use mathlib.Core.Path.{sym, ◌∙◌}
use borrow.Author.Tests.{eq-eqb, ne_eqb}
use Rattle.base.proofs.Booleans.{cond_true, cond_false}
use Rattle.address.proofs.Ranges.{address_ranges}
use Rattle.control.proofs.Ranges.{control_ranges}
use Rattle.bus.proofs.Kept.{room, in_mode}
use Rattle.bus.proofs.accept.accept.Goals as goal

pub obey-requires : goal.obey-requires
obey-requires c =
    address_ranges _ (control_ranges _ c.requires.0).address

pub buffer-next-requires : goal.buffer-next-requires
buffer-next-requires c =
    room _ _ c.requires.0 c.requires.2

pub buffer-requires : goal.buffer-requires
buffer-requires c =
    room _ _ c.requires.0 c.requires.2

pub returns-in-Idle : goal.returns-in-Idle
returns-in-Idle c =
    in_mode _ _ _ c.in-Idle.is (rw c.requires.1 at c.obey.ensures)

pub returns-in-Rom : goal.returns-in-Rom
returns-in-Rom c =
    in_mode _ _ _ c.in-Rom.is c.reset.ensures

pub returns-then-next-eq-START_LEVEL : goal.returns-then-next-eq-START_LEVEL
returns-then-next-eq-START_LEVEL c =
    let level = rw c.buffer-next.ensures at c.if-next-eq-START_LEVEL.true in
    in_mode _ _ _ c.in-Waiting.is (rw c.buffer-next.ensures at c.talk.ensures ∙ sym (cond_true _ _ _ (eq-eqb _ _ level)))

pub returns-else-next-eq-START_LEVEL : goal.returns-else-next-eq-START_LEVEL
returns-else-next-eq-START_LEVEL c =
    let level = rw c.buffer-next.ensures at c.if-next-eq-START_LEVEL.false in
    in_mode _ _ _ c.in-Waiting.is (rw c.buffer-next.ensures at c.sound_kept.ensures ∙ sym (cond_false _ _ _ (ne_eqb _ _ level)))

pub returns-in-External : goal.returns-in-External
returns-in-External c =
    in_mode _ _ _ c.in-External.is (rw c.buffer.ensures at c.sound_kept-in-External.ensures)
