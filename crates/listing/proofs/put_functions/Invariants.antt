-- `listing::put_functions` meets its contract: each turn adds the lines of one function. Assumes nothing.
use Rattle.listing.specs.Inner.{ToldAll}
use Rattle.listing.proofs.put_functions.Given as goal

abbrev pub invariant-loop-tag : goal.invariant-loop-tag
invariant-loop-tag l = ToldAll l.u l.tag l.initial.out l.out l.at
