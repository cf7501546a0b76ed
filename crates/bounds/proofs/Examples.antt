-- What the bounds say of Fig. 1, and what they rule out: sets, sums and replies that must not pass. Assumes nothing.
use Rattle.std.proofs.Common.{Ok}
use mathlib.Core.Path.{◌≡◌, refl, sym, ap, ◌∙◌, subst}
use mathlib.Core.Bool.{Bool, true, false, cond}
use mathlib.Core.List.{List, [], ◌∷◌, ◌++◌}
use Prim.Native.Nat.{ℕ, ◌+◌, ◌*◌, ◌≤◌}
use native.Mathlib.Omega.{arith}
use lib.Dec.{eqb}
use lib.ListN.{length, get_or, replicate}
use Rattle.words.specs.Bits.{is_set}
use Rattle.words.specs.Below.{some_below, count_below, max_below, word_below}
use Rattle.words.proofs.Tests.{nowhere}
use Rattle.clique_size.specs.Largest.{most_of, largest_clique}
use Rattle.unit.specs.declared.Plan.{Plan}
use Rattle.unit.specs.declared.FunctionUnit.{FunctionUnit}
use Rattle.unit.specs.Table.{Table}
use Rattle.unit.specs.Unit.{marked, good_counts, sound_of, marks_inside}
use Rattle.unit.specs.Calls.{tag_answer, no_plan, fresh_of}
use Rattle.unit.proofs.EditLaws.{blank_table}
use Rattle.collision.specs.Pipeline.{Forbidden, Cycle, total, NeverCollides}
use Rattle.collision.specs.Vector.{collides, row_word, vector_word, marks_of, bound_of}
use Rattle.collision.specs.Answers.{bound_answer}
use Rattle.collision.proofs.VectorLaws.{vector_bit}
use Rattle.clique.specs.Sets.{Clique, IsLargestClique, IsRowMaximum}
use Rattle.clique.proofs.SetLaws.{passing}
use Rattle.clique.proofs.LargestLaws.{clique_most, clique_reached, one_counts, unmarked_bound}
use Rattle.clique.proofs.LowerLaws.{lower}
use Rattle.clique.proofs.SegmentLaws.{segment_clique}
use Rattle.clique.proofs.RowLaws.{row_means}
use Rattle.cycles.specs.Greedy.{greedy_answer}
use Rattle.planner.specs.Sheet.{Call, Reply, Run, Sheet, start, next, fed, owing, spot_number, search_number}
use Rattle.planner.specs.Sheet.Call.{Mark, Search, Read}
use Rattle.planner.specs.Sheet.Reply.{accepted, handed}
use Rattle.papers.specs.Rows.{figure1, three_segments}
use Rattle.papers.proofs.EveryRow.{figure1_vector, figure1_bounded, three_segments_vector, three_segments_bounded, three_segments_bound}
use Rattle.bounds.specs.Bounds.{ones_of, InBounds}
use Rattle.bounds.proofs.BoundsLaws.{every_greedy}
use Rattle.bounds.proofs.EveryPlan.{every_plan_at}

-- Fig. 1: its vector 10110001, by which 1, 5, 6 and 8 are forbidden: the largest sets have three numbers, as 0 1 6 has
figure1_bound : bound_of figure1 1 ≡ 3
unfolding bound_of largest_clique most_of
figure1_bound = ap largest_clique figure1_vector

figure1_ones : ones_of (vector_word figure1 1) ≡ 4
unfolding count_below
figure1_ones = ap ones_of figure1_vector

-- Sets

-- the columns marked in the second segment
pub second_segment : passing 33 (λ c. figure1 1 2 c) ≡ 8 ∷ 3 ∷ 2 ∷ []
unfolding passing
second_segment = refl

-- so every cycle that never collides takes three time units for each task
pub three_each : (l : List ℕ) → Cycle 1 l → NeverCollides figure1 1 l → 3 * length l ≤ total l
three_each l c never =
    rw (ap length second_segment) at (lower figure1 1 1 l (passing 33 (λ k. figure1 1 2 k)) (omega arith) c never (segment_clique figure1 1 2 33))

-- 0 and 2 are no such set: the latency 2 is permitted
pub permitted_difference : Clique figure1 1 (0 ∷ 2 ∷ []) → ⊥
permitted_difference k =
    let f : Forbidden figure1 1 2 = k.differ 0 1 (omega arith) (omega arith) (omega arith) in
    nowhere (sym (ap (λ w. is_set w 1) figure1_vector) ∙ (vector_bit figure1 figure1_bounded 1 2 (omega arith)).1 f)

-- Counts and sums

-- the best cycle 3 4, and the greedy one 2 2 7
pub best_inside : InBounds 1 figure1 1 2 7
best_inside = record { lower = rw figure1_bound (omega arith); upper = rw figure1_ones (omega arith) }

pub greedy_inside : InBounds 1 figure1 1 3 11
greedy_inside = record { lower = rw figure1_bound (omega arith); upper = rw figure1_ones (omega arith) }

-- the cycle 9, which never collides, and a sum of 5 for two latencies
pub slow_outside : InBounds 1 figure1 1 1 9 → ⊥
slow_outside b = let h = rw figure1_ones at b.upper in omega arith

pub quick_outside : InBounds 1 figure1 1 2 5 → ⊥
quick_outside b = let h = rw figure1_bound at b.lower in omega arith

-- Three segments, marks 1 3; 1 4; 1 7: the request's own example

-- two marks in a segment, and three numbers in the largest sets
pub two_marks : marks_of three_segments 1 ≡ 2
unfolding marks_of max_below count_below
two_marks = refl

three_segments_ones : ones_of (vector_word three_segments 1) ≡ 3
unfolding count_below
three_segments_ones = ap ones_of three_segments_vector

-- 2 is the size of a set, and not of the largest; 2 is the most marks in one row of this table, and not of any with its vector; 4 is the size of no set, and
-- no row of such a table has 4 marks
pub two_not_largest : IsLargestClique three_segments 1 2 → ⊥
two_not_largest m =
    let r = clique_reached three_segments three_segments_bounded 1 in
    omega (arith, m.most r.0 r.1, r.2, three_segments_bound)

pub two_no_row_maximum : IsRowMaximum three_segments 1 2 → ⊥
two_no_row_maximum m =
    let r = (row_means three_segments three_segments_bounded 1).reached in
    omega (arith, m.most r.0 r.2 r.3.0 33, r.3.2, three_segments_bound)

pub four_not_largest : IsLargestClique three_segments 1 4 → ⊥
four_not_largest m =
    let r = m.reached in
    omega (arith, clique_most three_segments three_segments_bounded 1 r.0 r.1, r.2, three_segments_bound)

pub four_no_row_maximum : IsRowMaximum three_segments 1 4 → ⊥
four_no_row_maximum m =
    let r = m.reached in
    omega (arith, (row_means three_segments three_segments_bounded 1).most r.0 r.2 r.3.0 33, r.3.2, three_segments_bound)

-- the best cycle 1 4 4 is at the bound; a sum of 8 for three latencies is not in bounds, though no less than 2 × 3
pub three_inside : InBounds 1 three_segments 1 3 9
three_inside = record { lower = rw three_segments_bound (omega arith); upper = rw three_segments_ones (omega arith) }

pub eight_outside : InBounds 1 three_segments 1 3 8 → ⊥
eight_outside b = let h = rw three_segments_bound at b.lower in omega arith

-- no greedy call answers it, of any unit with this bound
pub eight_never_greedy : (u : FunctionUnit) (room out : ℕ) → bound_of (marked u) 1 ≡ 3 → greedy_answer u 1 room out ≡ Ok (record { count = 3; sum = 8 }) → ⊥
eight_never_greedy u room out three e = omega (arith, (every_greedy u 1 room out (record { count = 3; sum = 8 }) e).lower)

-- No marks: the call answers 1, and not 0 as the marks say

pub no_marks_answer : bound_answer (fresh_of 1 1 1).unit 1 ≡ Ok 1
unfolding bound_answer fresh_of tag_answer sound_of no_plan marks_inside some_below marked
no_marks_answer = ap Ok (unmarked_bound (marked (fresh_of 1 1 1).unit) 1 (λ s c. ap (λ (T : Table). T 1 s c) (blank_table 1 1 1)))

pub nothing_not_largest : (T : Table) (q : ℕ) → IsLargestClique T q 0 → ⊥
nothing_not_largest T q m = omega (arith, m.most (0 ∷ []) (one_counts T q 0))

-- Replies

-- the table marked by calls, and then searched
abbrev searched : List Call → List Call
searched marks = marks ++ Search 1 16000 ∷ []

-- a search leaves the table
search_table : (t : Sheet) (b : Bool) → (cond b (owing t 1) t).table ≡ t.table
search_table t true = refl
search_table t false = refl

searched_table : (marks : List Call) (t : Sheet) → (fed t (searched marks)).table ≡ (fed t marks).table
unfolding fed
searched_table [] t = search_table t (eqb (search_number t 1 16000) 0)
searched_table (k ∷ marks) t = searched_table marks (next t k)

-- whatever is called after, the read that comes next never hands out a plan that is not in bounds
abbrev Never : ℕ → ℕ → ℕ → List Call → Plan → Type 0
Never f s c marks p =
    (rest : List Call) (replies : List Reply) → Run (fresh_of f s c).unit (searched marks ++ Read ∷ rest) replies
    → get_or replies (length (searched marks)) accepted ≡ handed p → ⊥

outside_never : (f s c : ℕ) → good_counts f s c ≡ true → (marks : List Call) (p : Plan)
    → (InBounds 1 (fed (start f s c) marks).table p.tag p.count p.sum → ⊥) → Never f s c marks p
outside_never f s c g marks p outside rest replies x e =
    outside (subst (λ (T : Table). InBounds 1 T p.tag p.count p.sum) (searched_table marks (start f s c))
    (every_plan_at f s c g (searched marks) Read rest replies x p e))

-- Fig. 1 and the plan of one latency 9
abbrev marks1 : List Call
marks1 = Mark 1 1 1 ∷ Mark 1 1 9 ∷ Mark 1 2 2 ∷ Mark 1 2 3 ∷ Mark 1 2 8 ∷ Mark 1 3 4 ∷ Mark 1 4 5 ∷ Mark 1 4 6 ∷ Mark 1 5 7 ∷ Mark 1 5 8 ∷ []

abbrev slow : Plan
slow = record { tag = 1; count = 1; sum = 9; latencies = 9 ∷ replicate 255 0 }

marked_ones : ones_of (vector_word (fed (start 1 5 9) marks1).table 1) ≡ 4
unfolding fed spot_number row_word word_below collides some_below count_below
marked_ones = refl

pub slow_never_handed : Never 1 5 9 marks1 slow
slow_never_handed = outside_never 1 5 9 refl marks1 slow (λ b. let z = marked_ones in let h = b.upper in omega arith)

-- three segments and a plan of sum 8 for three latencies, which the marks of one segment allow
abbrev marks3 : List Call
marks3 = Mark 1 1 1 ∷ Mark 1 1 3 ∷ Mark 1 2 1 ∷ Mark 1 2 4 ∷ Mark 1 3 1 ∷ Mark 1 3 7 ∷ []

abbrev quick : Plan
quick = record { tag = 1; count = 3; sum = 8; latencies = 1 ∷ 3 ∷ 4 ∷ replicate 253 0 }

marked_vector : vector_word (fed (start 1 3 7) marks3).table 1 ≡ 0b100110
unfolding fed spot_number row_word word_below collides some_below
marked_vector = refl

marked_bound : bound_of (fed (start 1 3 7) marks3).table 1 ≡ 3
unfolding bound_of largest_clique most_of
marked_bound = ap largest_clique marked_vector

pub quick_never_handed : Never 1 3 7 marks3 quick
quick_never_handed = outside_never 1 3 7 refl marks3 quick (λ b. let z = marked_bound in let h = b.lower in omega arith)
