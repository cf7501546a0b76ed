-- The measure is the number, which falls as it is divided by ten.
use Rattle.text.proofs.+digits_of.Given as goal

abbrev pub decreases-digits_of : goal.decreases-digits_of
decreases-digits_of l = l.number
