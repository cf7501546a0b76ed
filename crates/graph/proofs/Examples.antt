-- Arcs of Fig. 1's diagram and small diagrams, computed. Assumes nothing.
use mathlib.Core.Path.{◌≡◌, refl}
use mathlib.Core.List.{[], ◌∷◌}
use Rattle.words.specs.Below.{list_below, join_below, some_below}
use Rattle.text.specs.Text.{ascii, digits, decimal, column_text}
use Rattle.graph.specs.Dot.{state_before, on_cycle, arc_text, arcs_text, dot_text}

-- 10110001 shifted right by two is 00101100, which ORed with the vector is 10111101
pub fig1_arc : arc_text 8 177 [] 177 2 ≡ ascii "  \"10110001\" -> \"10111101\" [label=2];\n"
unfolding arc_text on_cycle column_text list_below some_below digits decimal
fig1_arc = refl

-- the cycle of the latency 9 stays in the first state
pub fig1_bold : arc_text 8 177 (9 ∷ []) 177 9 ≡ ascii "  \"10110001\" -> \"10110001\" [label=9, style=bold];\n"
unfolding arc_text on_cycle state_before column_text list_below some_below digits decimal
fig1_bold = refl

-- and takes no other arc of it
pub fig1_plain : arc_text 8 177 (9 ∷ []) 177 7 ≡ ascii "  \"10110001\" -> \"10110001\" [label=7];\n"
unfolding arc_text on_cycle state_before column_text list_below some_below digits decimal
fig1_plain = refl

-- a vector of one column: 1 permits the latency 2 and no other
pub one_column : dot_text 3 1 1 (2 ∷ []) (1 ∷ []) ≡ ascii "digraph function_3 {\n  \"1\" -> \"1\" [label=2, style=bold];\n}\n"
unfolding dot_text arcs_text arc_text on_cycle state_before column_text list_below join_below some_below digits decimal
one_column = refl

-- no column: every start leads to the first state again
pub no_column : dot_text 1 0 0 [] (0 ∷ []) ≡ ascii "digraph function_1 {\n  \"-\" -> \"-\" [label=1];\n}\n"
unfolding dot_text arcs_text arc_text on_cycle state_before column_text list_below join_below some_below digits decimal
no_column = refl
