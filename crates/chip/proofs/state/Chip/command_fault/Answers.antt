use mathlib.Core.Path.{sym, ◌∙◌}
use Rattle.base.proofs.Faults.{none, applies, passes, applies_not, passes_not}
use Rattle.rom.proofs.Checks.{valid_length}
use Rattle.chip.proofs.Ranges.{valid_address}
use Rattle.chip.proofs.BusCalls.{command_fault_lem}
use Rattle.chip.proofs.state.Chip.command_fault.Goals as goal

pub returns-then-not-image_valid : goal.returns-then-not-image_valid
returns-then-not-image_valid c =
    search (command_fault_lem, applies_not)

pub returns-then-not-valid : goal.returns-then-not-valid
returns-then-not-valid c =
    search (command_fault_lem, applies_not, passes_not)

pub returns-then-waits : goal.returns-then-waits
returns-then-waits c =
    search (command_fault_lem, applies, passes_not)

pub beyond-requires : goal.beyond-requires
beyond-requires c = (
  (valid_address _ (sym c.valid.ensures ∙ c.if-not-valid.false)).0,
  (valid_length c.args.image.now (sym c.image_valid.ensures ∙ c.if-not-image_valid.false)).1,
)

pub returns-then-beyond : goal.returns-then-beyond
returns-then-beyond c =
    search (command_fault_lem, applies, passes, passes_not) depth 7

pub returns : goal.returns
returns c =
    search (command_fault_lem, none, passes, passes_not) depth 7
