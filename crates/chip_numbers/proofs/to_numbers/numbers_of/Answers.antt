use borrow.Author.Rules.{rules}
use mathlib.Core.Path.{ap, ◌∙◌}
use native.Mathlib.Omega.{arith}
use lib.ListN.{get_or}
use mir.Syntax.{w8}
use mir.Val.{Fits}
use Rattle.chip_numbers.specs.Chips.{chip_of}
use Rattle.chip_numbers.specs.Laws.{OfBytes}
use Rattle.chip_numbers.proofs.Theorems.{comes_back}
use Rattle.chip_numbers.proofs.to_numbers.numbers_of.Goals as goal

pub returns-clause-comes_back : goal.returns-clause-comes_back
returns-clause-comes_back c =
    let k = c.args.chip in
    let of_bytes : OfBytes k = record {
      bytes = λ i. let f : Fits w8 (get_or k.control.fifo.bytes i 0) = search rules in omega (arith, f.fits);
      «data» = search rules;
    } in
    λ v. ap chip_of c.put_chip.ensures ∙ comes_back k of_bytes v
