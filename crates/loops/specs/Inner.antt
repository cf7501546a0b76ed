-- What the private functions promise each other; no public contract cites this file.
use Rattle.std.specs.Prelude.{◌≡◌, Bool, true, false, cond, not, List, [], ◌∷◌, ◌++◌, ℕ, zero, suc, ◌+◌, ◌-◌, ◌*◌, ◌/◌, ◌%◌, ◌^◌, ◌≤◌, ◌<◌, leb, length, get_or, set, take, drop, Result, Ok}
use Rattle.std.specs.Int.Bits.{bit_or}
use Rattle.words.specs.Bits.{is_set}
use Rattle.unit.specs.declared.FunctionUnit.{FunctionUnit}
use Rattle.unit.specs.declared.Plan.{Plan}
use Rattle.unit.specs.declared.Refusal.{Refusal}
use Rattle.unit.specs.Unit.{marked, sound_of}
use Rattle.collision.specs.Pipeline.{total}
use Rattle.collision.specs.Vector.{largest_column}
use Rattle.controller.specs.declared.Bank.{Bank}
use Rattle.controller.specs.Bank.{register, empty, row_for}
use Rattle.graphs.specs.Graph.{Graph}
use Rattle.graphs.specs.States.{Tests, add, expand, states}
use Rattle.mean_cycle.specs.declared.Cycle.{Cycle}
use Rattle.planner.specs.Plans.{answer_of}
use Rattle.mean_cycle.specs.Nodes.{arc_word}
use Rattle.loops.specs.declared.State.{State}
use Rattle.loops.specs.declared.steps.Rules.{Rules}
use Rattle.loops.specs.Loop.{Loop}
use Rattle.loops.specs.Steps.{same_state}
use Rattle.loops.specs.Answers.{few_loop_states, LoopFound}

-- The rules of a loop

pub record RowsOf (u : FunctionUnit) (tags rows : List ℕ) : Type 0 where
  pub each : (a : ℕ) → a < length tags * 4 → get_or rows a 0 ≡ row_for u (get_or tags (a / 4) 0) (a % 4 + 1)

pub record TagsOf (tags copied : List ℕ) : Type 0 where
  pub each : (i : ℕ) → i < length tags → get_or copied i 0 ≡ get_or tags i 0

-- Steps by the rules

-- the rules are those of a loop
pub record RulesOf (u : FunctionUnit) (tags : List ℕ) (R : Rules) : Type 0 where
  pub rows : (p r : ℕ) → p < length tags → r < 4 → get_or R.rows (p * 4 + r) 0 ≡ row_for u (get_or tags p 0) (r + 1)
  pub tag : (p : ℕ) → p < length tags → get_or R.tags p 0 ≡ get_or tags p 0
  pub count : R.count ≡ length tags
  pub width : R.width ≡ largest_column (marked u)

abbrev pub position_after : Rules → ℕ → ℕ
position_after R p = (p + 1) % R.count

-- the register of the tag that follows
abbrev pub masked : Rules → State → ℕ
masked R s = register s.bank (get_or R.tags (position_after R s.position) 0)

-- the bank t time units later, with the rows of a position
abbrev pub begun : Rules → ℕ → ℕ → Bank → State
begun R p t b = record {
  position = p;
  bank = record {
    r1 = bit_or (b.r1 / 2 ^ t) (get_or R.rows (p * 4) 0);
    r2 = bit_or (b.r2 / 2 ^ t) (get_or R.rows (p * 4 + 1) 0);
    r3 = bit_or (b.r3 / 2 ^ t) (get_or R.rows (p * 4 + 2) 0);
    r4 = bit_or (b.r4 / 2 ^ t) (get_or R.rows (p * 4 + 3) 0);
  };
}

abbrev pub advanced : Rules → State → ℕ → State
advanced R s t = begun R (position_after R s.position) t s.bank

abbrev pub rule_first : Rules → State
rule_first R = begun R 0 0 empty

abbrev pub rule_arc : Rules → State → ℕ → Bool
rule_arc R s t = not (is_set (masked R s) (t - 1))

pub record RuleStep (R : Rules) (s : State) (t : ℕ) : Type 0 where
  pub least : 1 ≤ t
  pub most : t ≤ R.width + 1
  pub free : rule_arc R s t ≡ true

abbrev pub rule_graph : Rules → Graph
rule_graph R = record { State = State; first = rule_first R; Permits = RuleStep R; next = advanced R }

abbrev pub rule_tests : (R : Rules) → Tests (rule_graph R)
rule_tests R = record { same = same_state; arc = rule_arc R; longest = R.width + 1 }

abbrev pub rule_states : Rules → List State
rule_states R = states 256 (rule_graph R) (rule_tests R)

-- States in the words

abbrev pub state_of : List ℕ → ℕ → State
state_of w i = record {
  position = get_or w (9984 + i) 0;
  bank = record { r1 = get_or w (10240 + i) 0; r2 = get_or w (10496 + i) 0; r3 = get_or w (10752 + i) 0; r4 = get_or w (11008 + i) 0 };
}

abbrev pub put_state : List ℕ → ℕ → State → List ℕ
put_state w i s =
    set (set (set (set (set w (9984 + i) s.position) (10240 + i) s.bank.r1) (10496 + i) s.bank.r2) (10752 + i) s.bank.r3) (11008 + i) s.bank.r4

-- the first k states
abbrev pub list_in : List ℕ → ℕ → List State
list_in w zero = []
list_in w (suc k) = list_in w k ++ (state_of w k ∷ [])

-- r is the place of s among the first k states, or k where it is not there
pub record Placed (w : List ℕ) (k : ℕ) (s : State) (r : ℕ) : Type 0 where
  pub most : r ≤ k
  pub there : r < k → state_of w r ≡ s
  pub none : k ≤ r → (i : ℕ) → i < k → state_of w i ≡ s → ⊥

-- s is at the place r, which is k where it was not there; then it was written, if k is below 256
pub record Included (w w' : List ℕ) (k : ℕ) (s : State) (r : ℕ) : Type 0 where
  pub placed : Placed w k s r
  pub old : r < k → w' ≡ w
  pub new : k ≤ r → k < 256 → w' ≡ put_state w k s
  pub full : k ≤ r → 256 ≤ k → w' ≡ w

-- every position of the first k states is one of 8
abbrev pub Stocked : List ℕ → ℕ → Type 0
Stocked w k = (i : ℕ) → i < k → (state_of w i).position < 8

-- One latency

pub record Led (w w' : List ℕ) (R : Rules) (k : ℕ) (s : State) (word t r : ℕ) : Type 0 where
  pub long : R.width + 1 < t → (w' ≡ w) × (r ≡ 0)
  pub barred : is_set word (t - 1) ≡ true → t ≤ R.width + 1 → (w' ≡ w) × (r ≡ 0)
  pub led : is_set word (t - 1) ≡ false → t ≤ R.width + 1 → Included w w' k (advanced R s t) r

-- the table tells where t leads from s, which is at a place
pub record Target (w : List ℕ) (R : Rules) (k : ℕ) (s : State) (at t : ℕ) : Type 0 where
  pub inside : arc_word w at t < k
  pub leads : t ≤ R.width + 1 → rule_arc R s t ≡ true → state_of w (arc_word w at t) ≡ advanced R s t

-- the list after the latency t of s
abbrev pub visited : Rules → State → ℕ → List State → List State
visited R s t l = cond (leb t (R.width + 1)) (cond (rule_arc R s t) (add (rule_graph R) (rule_tests R) (advanced R s t) l) l) l

pub record Turned (w w' : List ℕ) (R : Rules) (k : ℕ) (s : State) (at t r : ℕ) : Type 0 where
  pub size : length w' ≡ length w
  pub grown : k ≤ r
  pub list : r ≤ 256 → list_in w' r ≡ visited R s t (list_in w k)
  pub over : 256 < r → 256 < length (visited R s t (list_in w k))
  pub target : r ≤ 256 → Target w' R r s at t
  pub states : (i : ℕ) → i < k → state_of w' i ≡ state_of w i
  pub words : (j : ℕ) → j < 9984 → (j ≡ 1791 + at * 32 + t → ⊥) → get_or w' j 0 ≡ get_or w j 0
  pub high : (j : ℕ) → 11264 ≤ j → get_or w' j 0 ≡ get_or w j 0
  pub stocked : r ≤ 256 → Stocked w k → Stocked w' r

-- All latencies of a state

pub record Listable (w : List ℕ) (k at : ℕ) : Type 0 where
  pub inside : at < k
  pub few : k ≤ 256
  pub room : 11264 ≤ length w
  pub stocked : Stocked w k

-- the list after all latencies of s
abbrev pub expanded : Rules → State → List State → List State
expanded R s l = expand (rule_graph R) (rule_tests R) s 1 (R.width + 1) l

pub record Followed (w w' : List ℕ) (R : Rules) (k at r : ℕ) : Type 0 where
  pub size : length w' ≡ length w
  pub grown : k ≤ r
  pub list : r ≤ 256 → list_in w' r ≡ expanded R (state_of w at) (list_in w k)
  pub over : 256 < r → 256 < length (expanded R (state_of w at) (list_in w k))
  pub row : r ≤ 256 → (t : ℕ) → 1 ≤ t → t ≤ 32 → Target w' R r (state_of w at) at t
  pub mask : get_or w' at 0 ≡ masked R (state_of w at)
  pub states : (i : ℕ) → i < k → state_of w' i ≡ state_of w i
  pub words : (j : ℕ) → j < 9984 → (j ≡ at → ⊥) → ((t : ℕ) → 1 ≤ t → t ≤ 32 → j ≡ 1791 + at * 32 + t → ⊥) → get_or w' j 0 ≡ get_or w j 0
  pub high : (j : ℕ) → 11264 ≤ j → get_or w' j 0 ≡ get_or w j 0
  pub stocked : r ≤ 256 → Stocked w' r

-- All states

-- the word and the row of the table of state v are right
pub record Entered (w : List ℕ) (R : Rules) (k v : ℕ) : Type 0 where
  pub mask : get_or w v 0 ≡ masked R (state_of w v)
  pub row : (t : ℕ) → 1 ≤ t → t ≤ 32 → Target w R k (state_of w v) v t

pub record Explored (w w' : List ℕ) (R : Rules) (r : ℕ) : Type 0 where
  pub size : length w' ≡ length w
  pub high : (j : ℕ) → 11264 ≤ j → get_or w' j 0 ≡ get_or w j 0
  pub some : 1 ≤ r
  pub list : r ≤ 256 → list_in w' r ≡ rule_states R
  pub done : r ≤ 256 → (v : ℕ) → v < r → Entered w' R r v
  pub over : 256 < r → 256 < length (rule_states R)

-- The answer

-- the latencies that stand in the words from 1536 on
abbrev pub cycle_in : List ℕ → ℕ → List ℕ
cycle_in w count = take count (drop 1536 w)

-- they are there, and each fits a byte
pub record Standing (w : List ℕ) (count : ℕ) : Type 0 where
  pub some : 1 ≤ count
  pub few : count ≤ 256
  pub room : 11264 ≤ length w
  pub small : (i : ℕ) → i < count → get_or w (1536 + i) 0 ≤ 32

-- a cycle stands in the words, through a state of the list at a position of the loop's
pub record Turnable (w : List ℕ) (len : ℕ) (c : Cycle) : Type 0 where
  pub standing : Standing w c.count
  pub start : c.start < 256
  pub place : (state_of w c.start).position < len
  pub short : len ≤ 8
  pub long : len ≤ c.count
  pub adds : c.sum ≡ total (cycle_in w c.count)
  pub low : c.sum ≤ 8192

-- by how many latencies the cycle is turned
abbrev pub turn_of : List ℕ → ℕ → Cycle → ℕ
turn_of w len c = (len - (state_of w c.start).position) % len

-- the unit and the list are in order
pub record Checked (u : FunctionUnit) (tags work : List ℕ) : Type 0 where
  pub sound : sound_of u ≡ true
  pub loop : Loop u tags
  pub room : 16000 ≤ length work

pub record Sought (u : FunctionUnit) (tags before after : List ℕ) (r : Result Plan Refusal) : Type 0 where
  pub size : length after ≡ length before
  pub beyond : (j : ℕ) → 16000 ≤ j → get_or after j 0 ≡ get_or before j 0
  pub says : answer_of r ≡ few_loop_states u tags
  pub found : (p : Plan) → r ≡ Ok p → LoopFound u tags p
