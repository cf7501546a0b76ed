-- Figure 1 of the paper: its marks, bound, upper and constant, as theorems. Assumes nothing.
use Prim.Native.Nat.{◌+◌}
use mathlib.Core.Path.{◌≡◌, refl, ap, ◌∙◌, sym}
use Rattle.words.specs.Bits.{is_set}
use Rattle.words.specs.Below.{some_below, count_below, max_below, least_from}
use Rattle.clique_size.specs.Largest.{most_of, largest_clique}
use Rattle.collision.specs.Vector.{marks_of, bound_of, upper_of, constant_of}
use Rattle.collision.proofs.Examples.{figure1, figure1_vector}
use Rattle.measures.specs.Inner.{free_of, least_free}
use Rattle.measures.proofs.NumberLaws.{least_constant}

pub figure1_marks : marks_of figure1 1 ≡ 3
unfolding figure1 marks_of max_below count_below
figure1_marks = refl

pub figure1_bound : bound_of figure1 1 ≡ 3
unfolding bound_of largest_clique most_of
figure1_bound = ap largest_clique figure1_vector

pub figure1_upper : upper_of figure1 1 ≡ 5
unfolding upper_of count_below
figure1_upper = ap (λ w. count_below 32 (is_set w) + 1) figure1_vector

pub figure1_constant : constant_of figure1 1 ≡ 7
unfolding least_free least_from free_of some_below
figure1_constant = sym (least_constant figure1 1) ∙ ap least_free figure1_vector
