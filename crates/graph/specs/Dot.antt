-- The state diagram of a function in Graphviz's language DOT: an arc to a line, the arcs of the present plan's cycle bold.
use Rattle.std.specs.Prelude.{◌≡◌, Bool, cond, ◌&&◌, List, [], ◌++◌, ℕ, zero, suc, ◌+◌, ◌*◌, ◌<◌, eqb, length, get_or, take}
use Rattle.words.specs.Below.{some_below, join_below}
use Rattle.text.specs.Text.{ascii, decimal, vector_text}
use Rattle.unit.specs.declared.FunctionUnit.{FunctionUnit}
use Rattle.unit.specs.Unit.{marked}
use Rattle.collision.specs.Pipeline.{latency}
use Rattle.collision.specs.Vector.{vector_word}
use Rattle.diagram.specs.Diagram.{width, next}
use Rattle.diagram.specs.States.{arc}
use Rattle.diagram.specs.Cycles.{states_along}
use Rattle.diagram.specs.Answers.{states_of}

-- The cycle of the plan

-- its latencies, if the plan is one of the tag
unfoldable pub plan_cycle : FunctionUnit → ℕ → List ℕ
plan_cycle u q = cond (eqb u.plan.tag q) (take u.plan.count u.plan.latencies) []

-- the state before start m of the cycle repeated without end, from the first state on
unfoldable pub state_before : ℕ → List ℕ → ℕ → ℕ
state_before cv cycle zero = cv
state_before cv cycle (suc m) = next cv (state_before cv cycle m) (latency cycle m)

-- A latency is at least 1, so that after 32 turns nothing is left of the state in which the cycle began: from then on the states are those that
-- it leads through in the diagram, the same in every turn (`bold_means`, proofs/BoldLaws.antt). The cycle leaves s by the latency t:
unfoldable pub on_cycle : ℕ → List ℕ → ℕ → ℕ → Bool
on_cycle cv cycle s t = some_below (length cycle) (λ j. eqb (state_before cv cycle (32 * length cycle + j)) s && eqb (get_or cycle j 0) t)

-- a cycle of the diagram, begun in the state `first`, leaves s by the latency t
pub record LeavesBy (cv first : ℕ) (cycle : List ℕ) (s t : ℕ) : Type 0 where
  pub start : ℕ
  pub inside : start < length cycle
  pub from : get_or (states_along cv first cycle) start 0 ≡ s
  pub by : get_or cycle start 0 ≡ t

-- The text

-- a state as a bit string, columns n to 1, in quotes
abbrev pub state_text : ℕ → ℕ → List ℕ
state_text n s = ascii "\"" ++ vector_text n s ++ ascii "\""

abbrev pub style_text : Bool → List ℕ
style_text bold = cond bold (ascii ", style=bold") []

-- the arc from s by the latency t
unfoldable pub arc_text : ℕ → ℕ → List ℕ → ℕ → ℕ → List ℕ
arc_text n cv cycle s t =
    ascii "  " ++ state_text n s ++ ascii " -> " ++ state_text n (next cv s t)
    ++ ascii " [label=" ++ decimal t ++ style_text (on_cycle cv cycle s t) ++ ascii "];\n"

-- the arcs of s by rising latency, n + 1 the last
unfoldable pub arcs_text : ℕ → ℕ → List ℕ → ℕ → List ℕ
arcs_text n cv cycle s = join_below (n + 1) (λ i. cond (arc 1 n s (i + 1)) (arc_text n cv cycle s (i + 1)) [])

unfoldable pub dot_text : ℕ → ℕ → ℕ → List ℕ → List ℕ → List ℕ
dot_text q n cv cycle states =
    ascii "digraph function_" ++ decimal q ++ ascii " {\n"
    ++ join_below (length states) (λ i. arcs_text n cv cycle (get_or states i 0))
    ++ ascii "}\n"

-- the diagram of a function, its states as they are listed
unfoldable pub diagram_text : FunctionUnit → ℕ → List ℕ
diagram_text u q = dot_text q (width (vector_word (marked u) q)) (vector_word (marked u) q) (plan_cycle u q) (states_of 1 (marked u) q)
