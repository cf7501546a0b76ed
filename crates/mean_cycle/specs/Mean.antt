-- The least mean cycle of the state diagram of a collision vector, as the search answers it. g is the least interval between two starts.
-- Assumes nothing.
use Rattle.std.specs.Prelude.{◌≡◌, Bool, true, false, ◌&&◌, List, ℕ, ◌+◌, ◌*◌, ◌^◌, ◌≤◌, ◌<◌, leb, ltb, length, get_or, take, drop, Option, Some, None}
use Rattle.collision.specs.Pipeline.{total}
use Rattle.diagram.specs.Diagram.{width, Walk}
use Rattle.diagram.specs.Cycles.{CycleFrom}
use Rattle.diagram.specs.States.{states}
use Rattle.mean_cycle.specs.declared.Cycle.{Cycle}

-- no walk from the first state has a lower average than sum / count, but for a bounded part
pub record Floor (g n cv count sum : ℕ) : Type 0 where
  pub bound : ℕ
  pub every : (l : List ℕ) (e : ℕ) → Walk g n cv cv l e → sum * length l ≤ count * total l + bound

-- the latencies of the cycle that was found: words 1536 and on
abbrev pub found : List ℕ → Cycle → List ℕ
found after c = take c.count (drop 1536 after)

-- c is the count, the sum and the place of the first state, as the states are listed, of a cycle of the diagram of cv that stands in the words, and no
-- cycle has a lower average
pub record LeastMean (g cv : ℕ) (after : List ℕ) (c : Cycle) : Type 0 where
  pub some : 1 ≤ c.count
  pub few : c.count ≤ 256
  pub adds : c.sum ≡ total (found after c)
  pub cycle : CycleFrom g (width cv) cv (found after c)
  pub begins : c.start < length (states 256 g (width cv) cv)
  pub start : cycle.state ≡ get_or (states 256 g (width cv) cv) c.start 0
  pub floor : Floor g (width cv) cv c.count c.sum

-- a search is made: there are 2048 working words, the vector has no column 32, and the diagram has at most 256 states
unfoldable pub searchable : ℕ → ℕ → ℕ → Bool
searchable room g cv = leb 2048 room && (ltb cv (2 ^ 31) && leb (length (states 256 g (width cv) cv)) 256)

abbrev pub is_found : Option Cycle → Bool
is_found None = false
is_found (Some c) = true

-- The first 1792 words afterwards are free but for what is said of them here.
pub record Searched (g cv : ℕ) (before after : List ℕ) (r : (Option Cycle)) : Type 0 where
  pub answer : is_found r ≡ searchable (length before) g cv
  pub least : (c : Cycle) → r ≡ Some c → LeastMean g cv after c
  pub size : length after ≡ length before
  pub beyond : (i : ℕ) → 1792 ≤ i → get_or after i 0 ≡ get_or before i 0
  pub short : length before < 2048 → after ≡ before
  pub wide : 2 ^ 31 ≤ cv → after ≡ before
