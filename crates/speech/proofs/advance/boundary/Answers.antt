use native.Mathlib.Omega.{arith}
use Rattle.control.proofs.Ranges.{valid_ranges}
use Rattle.speech.proofs.Boundaries.{external_fifo}
use Rattle.speech.proofs.advance.boundary.Goals as goal

pub from_rom-requires : goal.from_rom-requires
from_rom-requires c =
    omega (arith, c.requires.0, valid_ranges _ c.requires.1)

pub from_fifo-requires : goal.from_fifo-requires
from_fifo-requires c =
    omega (arith, external_fifo _ c.in-External.is c.requires.1, valid_ranges _ c.requires.1)
