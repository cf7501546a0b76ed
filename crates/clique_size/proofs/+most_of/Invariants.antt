-- The measure is the word of numbers, which falls as its lowest is taken off.
use Rattle.clique_size.proofs.+most_of.Given as goal

abbrev pub decreases-most_of : goal.decreases-most_of
decreases-most_of l = l.numbers
