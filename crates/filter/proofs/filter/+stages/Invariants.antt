-- The number of stages left.
use Rattle.filter.proofs.filter.+stages.Given as goal

abbrev pub decreases-stages : goal.decreases-stages
decreases-stages l = l.left
