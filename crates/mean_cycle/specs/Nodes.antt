-- A graph of numbered nodes in lent words: its arcs, its walks, a closed walk that meets no node twice, and one of least average.
-- Assumes nothing.
use Rattle.std.specs.Prelude.{◌≡◌, Bool, true, false, List, [], ◌∷◌, ℕ, zero, suc, ◌+◌, ◌*◌, ◌≤◌, ◌<◌, length, get_or}
use Rattle.collision.specs.Pipeline.{total}
use Rattle.diagram.specs.Diagram.{next, Permits}
use Rattle.diagram.specs.Work.{state_in}
use Rattle.mean_cycle.specs.declared.Cycle.{Cycle}
use Rattle.mean_cycle.specs.declared.search.Graph.{Graph}

-- Arcs

-- the word of the table of arcs for the latency t of node v
abbrev pub arc_word : List ℕ → ℕ → ℕ → ℕ
arc_word w v t = get_or w (1791 + v * 32 + t) 0

-- t leads from v to x: as the table of arcs says, or, where the words are the states of a collision vector, to the state that comes next
abbrev pub Leads : Bool → List ℕ → Graph → ℕ → ℕ → ℕ → Type 0
Leads true w G v t x = arc_word w v t ≡ x
Leads false w G v t x = state_in w x ≡ next G.vector (state_in w v) t

-- node v permits the latency t, by its word, and t leads to node x
pub record Arc (w : List ℕ) (G : Graph) (v t x : ℕ) : Type 0 where
  pub leaves : v < G.nodes
  pub enters : x < G.nodes
  pub permits : Permits 1 G.width (state_in w v) t
  pub high : t ≤ 32
  pub leads : Leads G.table w G v t x

-- Walks

-- a walk from node to node
pub data NodeWalk (w : List ℕ) (G : Graph) : ℕ → List ℕ → ℕ → Type 0 where
  rest : {v : ℕ} → NodeWalk w G v [] v
  onward : {v x y t : ℕ} {l : List ℕ} → Arc w G v t x → NodeWalk w G x l y → NodeWalk w G v (t ∷ l) y

-- no walk from node 0 has a lower average than sum / count, but for a bounded part
pub record NodeFloor (w : List ℕ) (G : Graph) (count sum : ℕ) : Type 0 where
  pub bound : ℕ
  pub every : (l : List ℕ) (x : ℕ) → NodeWalk w G 0 l x → sum * length l ≤ count * total l + bound

-- Cycles

-- c 0 + .. + c (k - 1)
abbrev pub sum_to : (ℕ → ℕ) → ℕ → ℕ
sum_to c zero = 0
sum_to c (suc i) = c i + sum_to c i

-- the latencies c 0 .. c (count - 1) are those of a closed walk from the node `start` that meets no node twice, and sum is their sum
pub record CycleOf (w : List ℕ) (G : Graph) (c : ℕ → ℕ) (best : Cycle) : Type 0 where
  pub node : ℕ → ℕ
  pub begins : node 0 ≡ best.start
  pub some : 1 ≤ best.count
  pub few : best.count ≤ G.nodes
  pub arcs : (i : ℕ) → i < best.count → Arc w G (node i) (c i) (node (suc i))
  pub closed : node best.count ≡ node 0
  pub apart : (i j : ℕ) → i < best.count → j < best.count → node i ≡ node j → i ≡ j
  pub total : best.sum ≡ sum_to c best.count

-- What a search leaves

-- the words but those from 768 to 1791 are as before
pub record Frame (w w' : List ℕ) : Type 0 where
  pub size : length w' ≡ length w
  pub low : (i : ℕ) → i < 768 → get_or w' i 0 ≡ get_or w i 0
  pub high : (i : ℕ) → 1792 ≤ i → get_or w' i 0 ≡ get_or w i 0

-- the i-th latency of the best cycle
abbrev pub cyc : List ℕ → ℕ → ℕ
cyc w i = get_or w (1536 + i) 0

-- a cycle of the graph in the words w stands in the words from 1536 on, and no walk has a lower average
pub record Least (w w' : List ℕ) (G : Graph) (best : Cycle) : Type 0 where
  pub frame : Frame w w'
  pub cycle : CycleOf w G (cyc w') best
  pub floor : NodeFloor w G best.count best.sum
