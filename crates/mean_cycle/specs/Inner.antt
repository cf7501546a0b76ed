-- What the private functions of the search promise each other; no public contract cites this file. Assumes nothing.
use Rattle.std.specs.Prelude.{◌≡◌, Bool, true, false, List, ℕ, zero, suc, ◌+◌, ◌*◌, ◌-◌, ◌^◌, ◌≤◌, ◌<◌, length, get_or}
use Rattle.diagram.specs.Diagram.{next, Permits}
use Rattle.diagram.specs.Work.{state_in, Indexed}
use Rattle.mean_cycle.specs.declared.Cycle.{Cycle}
use Rattle.mean_cycle.specs.declared.search.Graph.{Graph}
use Rattle.mean_cycle.specs.Nodes.{arc_word, Arc, sum_to, CycleOf, cyc, Frame}

-- The words

abbrev pub gain : List ℕ → ℕ → ℕ
gain w v = get_or w (768 + v) 0

abbrev pub parent : List ℕ → ℕ → ℕ
parent w v = get_or w (1024 + v) 0

abbrev pub label : List ℕ → ℕ → ℕ
label w v = get_or w (1280 + v) 0

-- The graph that the words hold

-- the diagram of the collision vector is listed whole, each state once, with a right index
pub record Ruled (w : List ℕ) (G : Graph) : Type 0 where
  pub index : Indexed w G.nodes
  pub apart : (i j : ℕ) → i < G.nodes → j < G.nodes → state_in w i ≡ state_in w j → i ≡ j
  pub closed : (i t : ℕ) → i < G.nodes → Permits 1 G.width (state_in w i) t
      → (x : ℕ) × ((x < G.nodes) × (state_in w x ≡ next G.vector (state_in w i) t))

-- the table of arcs is there, and every latency that a node permits leads to a node
pub record Tabled (w : List ℕ) (G : Graph) : Type 0 where
  pub room : 9984 ≤ length w
  pub closed : (i t : ℕ) → i < G.nodes → Permits 1 G.width (state_in w i) t → arc_word w i t < G.nodes

-- what tells where a latency leads: the table of arcs, or the collision vector
abbrev pub Source : Bool → List ℕ → Graph → Type 0
Source true w G = Tabled w G
Source false w G = Ruled w G

-- a graph of 1 to 256 nodes, of which no word has a column beyond the width
pub record Listing (w : List ℕ) (G : Graph) : Type 0 where
  pub few : G.nodes ≤ 256
  pub room : 2048 ≤ length w
  pub some : 1 ≤ G.nodes
  pub narrow : G.width ≤ 31
  pub below : (i : ℕ) → i < G.nodes → state_in w i < 2 ^ G.width
  pub source : Source G.table w G

-- a test that tells whether P
pub record Says (r : Bool) (P : Type 0) : Type 0 where
  pub right : r ≡ true → P
  pub wrong : r ≡ false → P → ⊥

-- Links

-- d links lead from y to a node without a link
abbrev pub Rooted : (ℕ → ℕ) → ℕ → ℕ → ℕ → Type 0
Rooted p n zero y = n ≤ p y
Rooted p n (suc d) y = (p y < n) × Rooted p n d (p y)

-- k links lead from v to y
abbrev pub Path : (ℕ → ℕ) → ℕ → ℕ → ℕ → ℕ → Type 0
Path p n zero v y = v ≡ y
Path p n (suc k) v y = (p v < n) × Path p n k (p v) y

-- d links lead from v to a node without a link, and x is on none of them
abbrev pub Off : (ℕ → ℕ) → ℕ → ℕ → ℕ → ℕ → Type 0
Off p n zero v x = (v ≡ x → ⊥) × (n ≤ p v)
Off p n (suc d) v x = (v ≡ x → ⊥) × ((p v < n) × Off p n d (p v) x)

-- the i-th node from v up
abbrev pub up : (ℕ → ℕ) → ℕ → ℕ → ℕ
up p zero v = v
up p (suc i) v = up p i (p v)

-- the sum of the labels of the k links from v up
abbrev pub up_sum : (ℕ → ℕ) → (ℕ → ℕ) → ℕ → ℕ → ℕ
up_sum p l zero v = 0
up_sum p l (suc k) v = l v + up_sum p l k (p v)

-- c 0 .. c (k - 1) are the labels of the k links from v up, the last first
abbrev pub Spelled : (ℕ → ℕ) → (ℕ → ℕ) → (ℕ → ℕ) → ℕ → ℕ → Type 0
Spelled p l c zero v = Unit {0}
Spelled p l c (suc k) v = (c k ≡ l v) × Spelled p l c k (p v)

-- the links from v end, within n
pub record Ends (w : List ℕ) (n v : ℕ) : Type 0 where
  pub depth : ℕ
  pub within : depth < n
  pub rooted : Rooted (parent w) n depth v

-- What holds between the steps

-- only the words from lo up to hi differ
pub record Within (lo hi : ℕ) (w w' : List ℕ) : Type 0 where
  pub size : length w' ≡ length w
  pub below : (i : ℕ) → i < lo → get_or w' i 0 ≡ get_or w i 0
  pub above : (i : ℕ) → hi ≤ i → get_or w' i 0 ≡ get_or w i 0

-- the links and gains of a round against the best cycle
pub record Tree (w : List ℕ) (G : Graph) (best : Cycle) : Type 0 where
  pub arc : (y : ℕ) → y < G.nodes → parent w y < G.nodes → Arc w G (parent w y) (label w y) y
  pub less : (y : ℕ) → y < G.nodes → parent w y < G.nodes → gain w y + best.count * label w y ≤ gain w (parent w y) + best.sum
  pub base : (y : ℕ) → y < G.nodes → G.nodes ≤ parent w y → gain w y ≡ 0
  pub deep : (y : ℕ) → y < G.nodes → (d : ℕ) × Rooted (parent w) G.nodes d y

-- the arc t of v, if there is one, asks no greater gain
abbrev pub Calm : List ℕ → Graph → Cycle → ℕ → ℕ → Type 0
Calm w G best v t = (x : ℕ) → Arc w G v t x → gain w v + best.sum ≤ gain w x + best.count * t

-- what every step of the search is handed
pub record Ready (w : List ℕ) (G : Graph) (best : Cycle) : Type 0 where
  pub listing : Listing w G
  pub cycle : CycleOf w G (cyc w) best

-- a better cycle
pub record Better (w : List ℕ) (G : Graph) (best best' : Cycle) : Type 0 where
  pub cycle : CycleOf w G (cyc w) best'
  pub lower : best.count * best'.sum < best'.count * best.sum

-- What each function leaves

pub record Climbed (w : List ℕ) (n v x r : ℕ) : Type 0 where
  pub met : r < n → Path (parent w) n r v x
  pub missed : n ≤ r → (d : ℕ) × Off (parent w) n d v x

pub record Cleared (w w' : List ℕ) (n : ℕ) : Type 0 where
  pub within : Within 768 1280 w w'
  pub gains : (y : ℕ) → y < n → gain w' y ≡ 0
  pub parents : (y : ℕ) → y < n → parent w' y ≡ 256

-- what trace asks: k links lead from v to some x, by labels of at most 32
pub record Traceable (w : List ℕ) (v t k : ℕ) : Type 0 where
  pub n : ℕ
  pub x : ℕ
  pub few : n ≤ 256
  pub room : 2048 ≤ length w
  pub here : v < n
  pub low : t ≤ 32
  pub short : k < n
  pub path : Path (parent w) n k v x
  pub labels : (y : ℕ) → y < n → parent w y < n → label w y ≤ 32

pub record Traced (w w' : List ℕ) (v t k r : ℕ) : Type 0 where
  pub within : Within 1536 1792 w w'
  pub last : cyc w' k ≡ t
  pub spelled : Spelled (parent w) (label w) (cyc w') k v
  pub total : r ≡ t + up_sum (parent w) (label w) k v

pub record Stepped (w w' : List ℕ) (G : Graph) (best : Cycle) (v t : ℕ) (found : Bool) (moved : ℕ) (best' : Cycle) : Type 0 where
  pub frame : Frame w w'
  pub better : found ≡ true → Better w' G best best'
  pub tree : found ≡ false → Tree w' G best
  pub ready : found ≡ false → Ready w' G best
  pub one : moved ≤ 1
  pub still : moved ≡ 0 → (w' ≡ w) × Calm w G best v t
  pub grown : found ≡ false → sum_to (gain w) G.nodes + moved ≤ sum_to (gain w') G.nodes

pub record Visited (w w' : List ℕ) (G : Graph) (best : Cycle) (v : ℕ) (found : Bool) (moved : ℕ) (best' : Cycle) : Type 0 where
  pub frame : Frame w w'
  pub better : found ≡ true → Better w' G best best'
  pub tree : found ≡ false → Tree w' G best
  pub ready : found ≡ false → Ready w' G best
  pub few : moved ≤ 32
  pub still : found ≡ false → moved ≡ 0 → (w' ≡ w) × ((t : ℕ) → Calm w G best v t)
  pub grown : found ≡ false → sum_to (gain w) G.nodes + moved ≤ sum_to (gain w') G.nodes

pub record Swept (w w' : List ℕ) (G : Graph) (best : Cycle) (found : Bool) (moved : ℕ) (best' : Cycle) : Type 0 where
  pub frame : Frame w w'
  pub better : found ≡ true → Better w' G best best'
  pub tree : found ≡ false → Tree w' G best
  pub ready : found ≡ false → Ready w' G best
  pub calm : found ≡ false → moved ≡ 0 → (v t : ℕ) → Calm w' G best v t
  pub grown : found ≡ false → sum_to (gain w) G.nodes + moved ≤ sum_to (gain w') G.nodes

pub record Rounded (w w' : List ℕ) (G : Graph) (best : Cycle) (found : Bool) (best' : Cycle) : Type 0 where
  pub frame : Frame w w'
  pub better : found ≡ true → Better w' G best best'
  pub ready : found ≡ false → Ready w' G best
  pub calm : found ≡ false → (v t : ℕ) → Calm w' G best v t

-- what copy asks: some steps, by labels of at most 32
pub record Copyable (w : List ℕ) (from to : ℕ) : Type 0 where
  pub room : 2048 ≤ length w
  pub some : from < to
  pub few : to ≤ 256
  pub labels : (i : ℕ) → i < to → label w i ≤ 32

pub record Copied (w w' : List ℕ) (from to start : ℕ) (r : Cycle) : Type 0 where
  pub begins : r.start ≡ start
  pub within : Within 1536 1792 w w'
  pub spelled : (i : ℕ) → i < to - from → cyc w' i ≡ label w (from + i)
  pub count : r.count ≡ to - from
  pub total : r.sum ≡ sum_to (cyc w') (to - from)

-- from the words w on, only the search's own were changed, and a cycle is known
pub record Begun (w w' : List ℕ) (G : Graph) (best : Cycle) : Type 0 where
  pub frame : Frame w w'
  pub ready : Ready w' G best
