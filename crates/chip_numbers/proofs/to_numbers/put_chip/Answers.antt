use borrow.Author.Rules.{rules}
use Rattle.chip_numbers.proofs.Pasting.{put_chip}
use Rattle.chip_numbers.proofs.to_numbers.put_chip.Goals as goal

pub returns : goal.returns
returns g c =
    put_chip g.N.NumberList.natural c.args.chip (search (rules, c.well_formed)) (search (rules, c.well_formed))
    (rw c.control_numbers.ensures at c.put.ensures)
    c.put-2.ensures
    (rw c.clock_numbers.ensures at c.put-3.ensures)
    c.put_params.ensures
    c.put_params-2.ensures
    c.put-4.ensures
    (rw c.later_numbers.ensures at c.put-5.ensures)
