-- The least mean cycle of a graph whose arcs stand in a table, as the search answers it. Assumes nothing.
use Rattle.std.specs.Prelude.{◌≡◌, true, List, ℕ, ◌+◌, ◌*◌, ◌^◌, ◌≤◌, ◌<◌, length, get_or, Option, Some, None}
use Rattle.diagram.specs.Work.{state_in}
use Rattle.mean_cycle.specs.declared.Cycle.{Cycle}
use Rattle.mean_cycle.specs.declared.search.Graph.{Graph}
use Rattle.mean_cycle.specs.Mean.{is_found}
use Rattle.mean_cycle.specs.Nodes.{Least}

-- no node's word has a column beyond the width
abbrev pub NarrowWords : List ℕ → ℕ → ℕ → Type 0
NarrowWords w nodes width = (v : ℕ) → v < nodes → state_in w v < 2 ^ width

-- every word of the table is a node
abbrev pub TargetsInside : List ℕ → ℕ → Type 0
TargetsInside w nodes = (a : ℕ) → a < nodes * 32 → get_or w (1792 + a) 0 < nodes

-- 1 to 256 nodes. Word v has a 0 in column t where v permits the latency t, of 1 to the width, and v permits one more than the width; the node to which
-- t leads stands at 1791 + v * 32 + t. All words of the table are nodes.
pub record TableGraph (w : List ℕ) (nodes width : ℕ) : Type 0 where
  pub some : 1 ≤ nodes
  pub few : nodes ≤ 256
  pub room : 9984 ≤ length w
  pub slim : width ≤ 31
  pub narrow : NarrowWords w nodes width
  pub targets : TargetsInside w nodes

abbrev pub tabled : ℕ → ℕ → Graph
tabled nodes width = record { nodes = nodes; width = width; vector = 0; table = true }

-- The answer is no exactly where the words hold no such graph, and then no word changes. Free are which of several cycles of least average is found,
-- and the words from 768 to 1791 but for its latencies.
pub record TableSearched (nodes width : ℕ) (before after : List ℕ) (r : (Option Cycle)) : Type 0 where
  pub found : TableGraph before nodes width → is_found r ≡ true
  pub graph : is_found r ≡ true → TableGraph before nodes width
  pub least : (c : Cycle) → r ≡ Some c → Least before after (tabled nodes width) c
  pub kept : r ≡ None → after ≡ before
