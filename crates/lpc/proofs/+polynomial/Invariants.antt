-- The degree falls.
use Rattle.lpc.proofs.+polynomial.Given as goal

abbrev pub decreases-polynomial : goal.decreases-polynomial
decreases-polynomial l = l.degree
