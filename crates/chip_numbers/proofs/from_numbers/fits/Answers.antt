use Rattle.chip_numbers.specs.Chips.{fits}
use Rattle.chip_numbers.proofs.from_numbers.fits.Goals as goal

pub returns : goal.returns
unfolding fits
returns c =
    rw (c.within.ensures, c.within-2.ensures, c.within-3.ensures, c.within-4.ensures, c.rate_fits.ensures)
