use Rattle.capi.proofs.Settling.{says_fresh}
use Rattle.capi.proofs.Valid.{power_up_named_valid}
use Rattle.capi.proofs.operations.tms_power_up.Goals as goal

pub returns-clause-says_next : goal.returns-clause-says_next
returns-clause-says_next c =
    says_fresh _ _ c.power_up_named.ensures.value c.power_up_named.ensures.fresh c.settle.ensures.says_next
    (power_up_named_valid c.args.device c.args.bit_order)
