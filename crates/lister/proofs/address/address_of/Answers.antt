use Rattle.std.proofs.Common.{rules}
use Rattle.lister.proofs.AddressLaws.{reading_more, reading_done, address_none}
use Rattle.lister.proofs.address.address_of.Goals as goal

pub returns-then-is_empty : goal.returns-then-is_empty
returns-then-is_empty c = address_none _ (search rules)

pub loop-character-preserved : goal.loop-character-preserved
loop-character-preserved c =
    reading_more c.loop-character.invariant c.loop-character-test.true c.with_digit-address.ensures

pub returns : goal.returns
returns c = reading_done c.loop-character.invariant (search rules) c.loop-character-test.false
