-- Every row of the papers' worked examples holds. Assumes nothing.
use mathlib.Core.Path.{◌≡◌, refl, ap, subst}
use mathlib.Core.List.{[], ◌∷◌}
use Prim.Native.Nat.{ℕ}
use lib.ListN.{get_or}
use Rattle.words.specs.Below.{some_below, span_below, least_from, word_below}
use Rattle.clique_size.specs.Largest.{most_of, largest_clique}
use Rattle.collision.specs.Vector.{collides, row_word, vector_word, bound_of}
use Rattle.measures.specs.Inner.{free_of, least_free}
use Rattle.collision.specs.Meaning.{Bounded}
use Rattle.diagram.specs.States.{expand, list_from}
use Rattle.diagram.proofs.Examples.{fig1_width, fig1_states}
use Rattle.clique.specs.Sets.{IsLargestClique}
use Rattle.clique.proofs.LargestLaws.{largest_means}
use Rattle.cycles.proofs.Examples.{fig1_greedy}
use Rattle.papers.specs.Rows.{figure1, figure2, one_segment, three_segments, states, Holds, row_of, rows, EveryRow}
use Rattle.papers.proofs.TestLaws.{columns_tested, Every, end, ◌then◌, every_at}
use Rattle.papers.proofs.TableLaws.{table_bounded}
use Rattle.papers.proofs.PotentialLaws.{is_potential}
use Rattle.papers.proofs.CycleLaws.{is_first, is_cycle}
use Rattle.papers.proofs.DiagramLaws.{Computed, are_forbidden, largest_computed, forbidden_computed, states_computed, greedy_computed, best_computed, constant_computed}

-- what the row at i says, counted from 0
abbrev Says : ℕ → Type 0
Says i = Holds (get_or rows i (row_of figure1 1 (states 5)))

-- Fig. 1

pub figure1_vector : vector_word figure1 1 ≡ 0b10110001
unfolding row_word word_below collides some_below
figure1_vector = refl

pub figure1_bounded : Bounded figure1
figure1_bounded = table_bounded (((1 ∷ 9 ∷ []) ∷ (2 ∷ 3 ∷ 8 ∷ []) ∷ (4 ∷ []) ∷ (5 ∷ 6 ∷ []) ∷ (7 ∷ 8 ∷ []) ∷ []) ∷ []) refl

figure1_computed : Computed figure1 1 0b10110001 8 (0b10110001 ∷ 0b10111101 ∷ 0b10110111 ∷ 0b10111011 ∷ 0b10111111 ∷ [])
figure1_computed = record {
  bounded = figure1_bounded;
  vector = figure1_vector;
  wide = fig1_width;
  listed = fig1_states;
  few = refl;
}

figure1_vector_row : Says 0
unfolding rows
figure1_vector_row = (columns_tested (vector_word figure1 1) 0b10110001 _ figure1_vector refl refl, largest_computed figure1_computed)

figure1_states_row : Says 1
unfolding rows
figure1_states_row = states_computed figure1_computed _ refl

figure1_greedy_row : Says 2
unfolding rows
figure1_greedy_row = (greedy_computed figure1_computed _ fig1_greedy, refl)

-- from 10111011 by 3 to 10110111, and by 4 back
figure1_best_row : Says 3
unfolding rows is_cycle is_potential is_first
figure1_best_row =
    best_computed figure1_computed _ _ (record {
      heights = (0b10110001, 6) ∷ (0b10111101, 3) ∷ (0b10110111, 5) ∷ (0b10111011, 6) ∷ [];
      closed = refl;
      potential = refl;
      rotation = refl;
      sums = refl;
    })

figure1_constant_row : Says 4
unfolding rows least_free least_from free_of some_below
figure1_constant_row = constant_computed figure1_computed _ refl

-- Fig. 2: M_1 with its rows 1 and 2, then M_2

figure2_row_1_1 : Says 5
unfolding rows row_word word_below collides some_below
figure2_row_1_1 = columns_tested (row_word figure2 1 1) 0b0110 _ refl refl refl

figure2_row_2_1 : Says 6
unfolding rows row_word word_below collides some_below
figure2_row_2_1 = columns_tested (row_word figure2 2 1) 0b1010 _ refl refl refl

figure2_row_1_2 : Says 7
unfolding rows row_word word_below collides some_below
figure2_row_1_2 = columns_tested (row_word figure2 1 2) 0b1011 _ refl refl refl

figure2_row_2_2 : Says 8
unfolding rows row_word word_below collides some_below
figure2_row_2_2 = columns_tested (row_word figure2 2 2) 0b0110 _ refl refl refl

-- Marks 1 3 6 in one segment

one_segment_vector : vector_word one_segment 1 ≡ 0b10110
unfolding row_word word_below collides some_below
one_segment_vector = refl

one_segment_computed : Computed one_segment 1 0b10110 5 (0b10110 ∷ 0b11111 ∷ 0b10111 ∷ [])
unfolding span_below expand list_from
one_segment_computed = record {
  bounded = table_bounded (((1 ∷ 3 ∷ 6 ∷ []) ∷ []) ∷ []) refl;
  vector = one_segment_vector;
  wide = refl;
  listed = refl;
  few = refl;
}

-- from 10110 by 1 to 11111, and by 6 back
one_segment_row : Says 9
unfolding rows are_forbidden is_cycle is_potential is_first
one_segment_row = (
  forbidden_computed one_segment_computed (2 ∷ 3 ∷ 5 ∷ []) refl,
  best_computed one_segment_computed _ _ (record {
    heights = (0b10110, 5) ∷ (0b10111, 5) ∷ [];
    closed = refl;
    potential = refl;
    rotation = refl;
    sums = refl;
  }),
)

-- Three segments

pub three_segments_vector : vector_word three_segments 1 ≡ 0b100110
unfolding row_word word_below collides some_below
three_segments_vector = refl

pub three_segments_bounded : Bounded three_segments
three_segments_bounded = table_bounded (((1 ∷ 3 ∷ []) ∷ (1 ∷ 4 ∷ []) ∷ (1 ∷ 7 ∷ []) ∷ []) ∷ []) refl

three_segments_computed : Computed three_segments 1 0b100110 6 (0b100110 ∷ 0b110111 ∷ 0b100111 ∷ [])
unfolding span_below expand list_from
three_segments_computed = record {
  bounded = three_segments_bounded;
  vector = three_segments_vector;
  wide = refl;
  listed = refl;
  few = refl;
}

-- 2, 3 and 6 are forbidden: 0 3 6
pub three_segments_bound : bound_of three_segments 1 ≡ 3
unfolding bound_of largest_clique most_of
three_segments_bound = ap largest_clique three_segments_vector

-- from 100110 by 1 to 110111, by 4 to 100111, and by 4 back
three_segments_row : Says 10
unfolding rows is_cycle is_potential is_first
three_segments_row = (
  best_computed three_segments_computed _ _ (record {
    heights = (0b100110, 6) ∷ (0b100111, 3) ∷ [];
    closed = refl;
    potential = refl;
    rotation = refl;
    sums = refl;
  }),
  subst (IsLargestClique three_segments 1) three_segments_bound (largest_means three_segments three_segments_bounded 1),
)

-- All

pub every_row : EveryRow
unfolding rows
every_row = (refl, every_at each _)
  where
    each : Every Holds rows
    each =
        figure1_vector_row
        then figure1_states_row
        then figure1_greedy_row
        then figure1_best_row
        then figure1_constant_row
        then figure2_row_1_1
        then figure2_row_2_1
        then figure2_row_1_2
        then figure2_row_2_2
        then one_segment_row
        then three_segments_row
        then end
