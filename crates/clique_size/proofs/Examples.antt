-- Sizes for small words, as theorems. Assumes nothing.
use mathlib.Core.Path.{◌≡◌, refl}
use Rattle.clique_size.specs.Largest.{most_of, largest_clique}

-- Fig. 1: 1, 5, 6 and 8 are forbidden; 0 1 6
pub figure1 : largest_clique 0b10110001 ≡ 3
unfolding largest_clique most_of
figure1 = refl

-- the marks 1 3; 1 4; 1 7 of three segments: 2, 3 and 6 are forbidden; 0 3 6
pub three_segments_lem : largest_clique 0b100110 ≡ 3
unfolding largest_clique most_of
three_segments_lem = refl

-- without 3 there is no third number: 6 is 4 above 2
pub two_at_most : largest_clique 0b100010 ≡ 2
unfolding largest_clique most_of
two_at_most = refl

-- 1 to 3: 0 1 2 3
pub in_a_row : largest_clique 0b111 ≡ 4
unfolding largest_clique most_of
in_a_row = refl

-- nothing is forbidden: a set of one always counts
pub nothing : largest_clique 0 ≡ 1
unfolding largest_clique most_of
nothing = refl
