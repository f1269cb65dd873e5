use mathlib.Core.Path.{◌≡◌, refl, sym, ap, ◌∙◌}
use mathlib.Core.List.{List}
use Prim.Native.Nat.{ℕ}
use Rattle.base.proofs.Refused.{refused_not_taken, passed_on}
use Rattle.control.proofs.Ranges.{control_in_ranges}
use Rattle.control.specs.Commands.{command_of}
use Rattle.chip.specs.Types.{Command, Chip}
use Rattle.chip.specs.Write.{command_fault, write_fault, write_answer}
use Rattle.chip.proofs.Ranges.{chip_ranges}
use Rattle.chip.proofs.BusCalls.{found, write_refused, write_taken}
use Rattle.chip.proofs.state.Chip.write.Goals as goal

-- the fault of the command that a byte is, is the byte's
fault_is : (image : List ℕ) (c : Chip) (byte : ℕ) {k : Command} {n : ℕ} → k ≡ command_of byte → n ≡ command_fault image c k → n ≡ write_fault image c byte
fault_is image c byte is fault = rw (← is) fault

pub returns-in_err-command_fault : goal.returns-in_err-command_fault
returns-in_err-command_fault c =
    ap (write_answer c.args.self) (passed_on _ _ c.from_residual.ensures.1)
    ∙ write_refused _ _ _ (fault_is c.args.image.now c.args.self c.args.byte c.command_of-command.ensures c.in_err-command_fault.ensures)
    (refused_not_taken c.in_err-command_fault.field-0.0)

pub accept-requires : goal.accept-requires
accept-requires c =
    let f = found c.args.image.now c.args.self c.args.byte (sym (fault_is c.args.image.now c.args.self c.args.byte c.command_of-command.ensures c.in_ok-command_fault.ensures)) in
    (control_in_ranges _ (chip_ranges _ f.chip_valid).control, c.command_of-command.ensures, rw c.command_of-command.ensures f.no_wait)

pub returns : goal.returns
returns c =
    write_taken _ _ _ (fault_is c.args.image.now c.args.self c.args.byte c.command_of-command.ensures c.in_ok-command_fault.ensures) refl c.accept.ensures c.after_byte.ensures
