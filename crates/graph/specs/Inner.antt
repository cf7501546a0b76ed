-- What the private functions write and find. No public contract cites this file.
use Rattle.std.specs.Prelude.{◌≡◌, Bool, cond, List, [], ◌++◌, ℕ, ◌+◌, ◌*◌, ◌^◌, ◌≤◌, ◌<◌, eqb, length, get_or}
use Rattle.words.specs.Below.{join_below}
use Rattle.text.specs.Text.{ascii, decimal}
use Rattle.unit.specs.declared.Plan.{Plan}
use Rattle.diagram.specs.Diagram.{width}
use Rattle.diagram.specs.States.{Each, arc}
use Rattle.graph.specs.Dot.{state_before, style_text, arc_text, arcs_text, dot_text}

-- the states before the starts of a turn in which nothing is left of the state where the cycle began
pub record Turn (cv : ℕ) (cycle on : List ℕ) : Type 0 where
  pub few : length cycle ≤ 256
  pub room : length on ≡ 256
  pub states : (j : ℕ) → j < length cycle → get_or on j 0 ≡ state_before cv cycle (32 * length cycle + j)

-- how many latencies of the plan are the tag's
abbrev pub plan_length : Plan → ℕ → ℕ
plan_length plan q = cond (eqb plan.tag q) plan.count 0

-- what stands after an arc, to the end of the line
abbrev pub label_text : ℕ → Bool → List ℕ
label_text t bold = ascii " [label=" ++ decimal t ++ style_text bold ++ ascii "];\n"

-- the arc from s by the latency i + 1, if s permits it
abbrev pub permitted_text : ℕ → ℕ → List ℕ → ℕ → ℕ → List ℕ
permitted_text n cv cycle s i = cond (arc 1 n s (i + 1)) (arc_text n cv cycle s (i + 1)) []

-- the arcs of all states
abbrev pub states_text : ℕ → ℕ → List ℕ → List ℕ → List ℕ
states_text n cv cycle states = join_below (length states) (λ i. arcs_text n cv cycle (get_or states i 0))

-- the states of a diagram, the first of them its vector
pub record Listing (states : List ℕ) : Type 0 where
  pub some : 1 ≤ length states
  pub few : length states ≤ 256
  pub small : Each (λ s. s < 2 ^ width (get_or states 0 0)) states

abbrev pub listed_text : ℕ → List ℕ → List ℕ → List ℕ
listed_text q cycle states = dot_text q (width (get_or states 0 0)) (get_or states 0 0) cycle states
