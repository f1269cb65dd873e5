-- What is read and the rest give the address.
use Rattle.lister.proofs.AddressLaws.{Reading}
use Rattle.lister.proofs.address.address_of.Given as goal

abbrev pub invariant-loop-character : goal.invariant-loop-character
invariant-loop-character l = Reading l.text l.address l.character-index
