-- What the private functions that walk the listed diagram do to the working words; no public contract cites this file.
use Rattle.std.specs.Prelude.{◌≡◌, List, ℕ, ◌+◌, ◌≤◌, ◌<◌, length, get_or, set, take, drop}
use Rattle.diagram.specs.Diagram.{width, next}
use Rattle.diagram.specs.States.{states}
use Rattle.diagram.specs.Work.{state_in, place_in, Indexed}
use Rattle.cycles.specs.declared.Noted.{Noted}
use Rattle.cycles.specs.Greedy.{least_latency, greedy_cycle}

-- The words after the listing: the mark of state v at 768 + v, 0 or one more than the step at which the walk left the state; the latency of
-- step i at 1024 + i.
abbrev pub mark_in : List ℕ → ℕ → ℕ
mark_in w v = get_or w (768 + v) 0

abbrev pub step_in : List ℕ → ℕ → ℕ
step_in w i = get_or w (1024 + i) 0

-- the latencies that stand in the words
abbrev pub noted_in : List ℕ → ℕ → ℕ → List ℕ
noted_in w from count = take count (drop from w)

-- no state has a mark, and the other words are as before
pub record Unmarked (before after : List ℕ) : Type 0 where
  pub size : length after ≡ length before
  pub none : (v : ℕ) → v < 256 → mark_in after v ≡ 0
  pub below : (i : ℕ) → i < 768 → get_or after i 0 ≡ get_or before i 0
  pub above : (i : ℕ) → 1024 ≤ i → get_or after i 0 ≡ get_or before i 0

-- a step can be made: the place and the step are in the words
pub record Ready (w : List ℕ) (n at i : ℕ) : Type 0 where
  pub room : 2048 ≤ length w
  pub narrow : n ≤ 32
  pub inside : at < 256
  pub few : i < 256

-- step i leaves the state at a place by its least latency: the state is marked, the latency is noted, and the answer is the place of the next
pub record Stepped (w after : List ℕ) (cv n k at i r : ℕ) : Type 0 where
  pub words : after ≡ set (set w (768 + at) (i + 1)) (1024 + i) (least_latency 1 n (state_in w at))
  pub place : r ≡ place_in w k (next cv (state_in w at) (least_latency 1 n (state_in w at)))

-- the diagram of cv is listed in the words, with its index
pub record Walkable (w : List ℕ) (cv k : ℕ) : Type 0 where
  pub room : 2048 ≤ length w
  pub some : 0 < k
  pub listed : take k w ≡ states 256 1 (width cv) cv
  pub index : Indexed w k

-- the greedy cycle stands in the words, and those from 2048 on are as before
pub record Walked (before after : List ℕ) (cv : ℕ) (r : Noted) : Type 0 where
  pub size : length after ≡ length before
  pub beyond : (i : ℕ) → 2048 ≤ i → get_or after i 0 ≡ get_or before i 0
  pub inside : r.from + r.count ≤ 2048
  pub few : r.count ≤ 256
  pub cycle : noted_in after r.from r.count ≡ greedy_cycle 1 (width cv) cv
  pub low : (i : ℕ) → i < r.count → get_or after (r.from + i) 0 ≤ 33

-- what copying asks: latencies of at most 33, and room for them
pub record Copyable (w : List ℕ) (from count room : ℕ) : Type 0 where
  pub inside : from + count ≤ length w
  pub few : count ≤ 256
  pub fits : count ≤ room
  pub low : (i : ℕ) → i < count → get_or w (from + i) 0 ≤ 33
