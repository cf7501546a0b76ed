-- Cycles of the state diagram.
use Rattle.std.specs.Prelude.{List, [], ◌∷◌, ℕ}
use Rattle.diagram.specs.Diagram.{next, Walk, Reachable}
use Rattle.diagram.specs.States.{Distinct}

-- the states that the latencies lead through from s, each before its latency
abbrev pub states_along : ℕ → ℕ → List ℕ → List ℕ
states_along cv s [] = []
states_along cv s (t ∷ l) = s ∷ states_along cv (next cv s t) l

-- a cycle of the diagram: the latencies lead from a reachable state back to it, and no state occurs twice on the way
pub record CycleFrom (g n cv : ℕ) (l : List ℕ) : Type 0 where
  pub state : ℕ
  pub reached : Reachable g n cv state
  pub closed : Walk g n cv state l state
  pub apart : Distinct (states_along cv state l)
