use mathlib.Core.Path.{sym, ◌∙◌}
use borrow.Author.Tests.{not-true, not-false}
use Rattle.control.proofs.Ranges.{valid_ranges}
use Rattle.speech.proofs.Boundaries.{advanced_boundary, advanced_within, advanced_silent}
use Rattle.speech.proofs.advance.advance_from.Goals as goal

pub count-requires : goal.count-requires
count-requires c =
    (valid_ranges _ c.requires.1).1

pub returns-then-not-clock : goal.returns-then-not-clock
returns-then-not-clock c = advanced_silent _ _ _ (not-true _ c.if-not-clock.true) c.quiet.ensures

pub returns-then-frame_begins : goal.returns-then-frame_begins
returns-then-frame_begins c =
    advanced_boundary _ _ _ (not-false _ c.if-not-clock.false) (sym c.frame_begins.ensures ∙ c.if-frame_begins.true) c.boundary.ensures

pub returns-else-frame_begins : goal.returns-else-frame_begins
returns-else-frame_begins c =
    advanced_within _ _ _ (not-false _ c.if-not-clock.false) (sym c.frame_begins.ensures ∙ c.if-frame_begins.false)
    (rw c.count.ensures at c.with_clock.ensures) c.go_on.ensures c.quiet-else-frame_begins.ensures
