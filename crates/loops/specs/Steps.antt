-- The states of a loop: a position with the bank just after its start.
use Rattle.std.specs.Prelude.{◌≡◌, Bool, true, ◌&&◌, List, ℕ, ◌+◌, ◌-◌, ◌%◌, ◌≤◌, eqb, length, get_or}
use Rattle.unit.specs.declared.FunctionUnit.{FunctionUnit}
use Rattle.unit.specs.Unit.{marked}
use Rattle.collision.specs.Vector.{largest_column}
use Rattle.controller.specs.declared.Bank.{Bank}
use Rattle.controller.specs.Bank.{empty, ticked, started, granted}
use Rattle.graphs.specs.Graph.{Graph}
use Rattle.graphs.specs.States.{Tests, states}
use Rattle.loops.specs.declared.State.{State}

-- the next position of the list, and its tag
abbrev pub following : List ℕ → State → ℕ
following tags s = (s.position + 1) % length tags

abbrev pub next_tag : List ℕ → State → ℕ
next_tag tags s = get_or tags (following tags s) 0

-- the first tag started on an empty bank
abbrev pub first_state : FunctionUnit → List ℕ → State
first_state u tags = record { position = 0; bank = started u (get_or tags 0 0) empty }

-- a step by the latency t is t - 1 ticks and then a granted start of the next tag
pub record Steps (tags : List ℕ) (s : State) (t : ℕ) : Type 0 where
  pub least : 1 ≤ t
  pub granted : granted (ticked (t - 1) s.bank) (next_tag tags s) ≡ true

-- the state after it
abbrev pub stepped : FunctionUnit → List ℕ → State → ℕ → State
stepped u tags s t = record { position = following tags s; bank = started u (next_tag tags s) (ticked (t - 1) s.bank) }

-- the graph of all steps: any number of ticks
abbrev pub loop_graph : FunctionUnit → List ℕ → Graph
loop_graph u tags = record { State = State; first = first_state u tags; Permits = Steps tags; next = stepped u tags }

-- n is the largest column of the unit's matrices. Longer latencies than n + 1 lead to the same state as it does (`step_far`, proofs/StepLaws.antt), and get no arc.

-- a step by a latency of at most n + 1
pub record ShortStep (n : ℕ) (tags : List ℕ) (s : State) (t : ℕ) : Type 0 where
  pub step : Steps tags s t
  pub most : t ≤ n + 1

-- the graph of the arcs
abbrev pub arc_graph : FunctionUnit → List ℕ → Graph
arc_graph u tags = record { State = State; first = first_state u tags; Permits = ShortStep (largest_column (marked u)) tags; next = stepped u tags }

-- The list of the states

abbrev pub same_bank : Bank → Bank → Bool
same_bank a b = eqb a.r1 b.r1 && (eqb a.r2 b.r2 && (eqb a.r3 b.r3 && eqb a.r4 b.r4))

abbrev pub same_state : State → State → Bool
same_state x y = eqb x.position y.position && same_bank x.bank y.bank

abbrev pub arc_tests : (u : FunctionUnit) (tags : List ℕ) → Tests (arc_graph u tags)
arc_tests u tags = record {
  same = same_state;
  arc = λ s t. granted (ticked (t - 1) s.bank) (next_tag tags s);
  longest = largest_column (marked u) + 1;
}

-- the states of a loop, if they are at most 256; else more than 256 of them
abbrev pub loop_states : FunctionUnit → List ℕ → List State
loop_states u tags = states 256 (arc_graph u tags) (arc_tests u tags)
