-- The measure is the number itself, which loses its last digit at each call.
use Rattle.text.proofs.figures.+digits.Given as goal

abbrev pub decreases-digits : goal.decreases-digits
decreases-digits l = l.n
