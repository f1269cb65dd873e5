use Rattle.std.proofs.lemmas.List.{map-id}
use Rattle.chip_numbers.specs.Chips.{chip_of}
use Rattle.chip_numbers.proofs.from_numbers.chip_of.Goals as goal

pub returns : goal.returns
unfolding chip_of
returns c = simp map-id at c.read_chip.ensures
