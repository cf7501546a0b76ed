-- The best cycle of a function, the plan that holds it, and what search and read answer.
use Rattle.std.specs.Prelude.{◌≡◌, not, Result, List, ◌++◌, ℕ, ◌-◌, ◌*◌, ◌≤◌, leb, eqb, length, replicate, Ok, Err}
use Rattle.unit.specs.declared.Plan.{Plan}
use Rattle.unit.specs.declared.FunctionUnit.{FunctionUnit}
use Rattle.unit.specs.declared.Refusal.{Refusal}
use Rattle.unit.specs.declared.Refusal.TheVariants.{NotSound, ShortWork, NoPlan}
use Rattle.unit.specs.Answers.{Answer}
use Rattle.unit.specs.Table.{Table}
use Rattle.unit.specs.Unit.{marked, sound_of}
use Rattle.unit.specs.Calls.{check, and_then, tag_answer}
use Rattle.collision.specs.Pipeline.{Cycle, total, NeverCollides}
use Rattle.collision.specs.Vector.{vector_word}
use Rattle.diagram.specs.Diagram.{width}
use Rattle.diagram.specs.Cycles.{CycleFrom}
use Rattle.diagram.specs.Answers.{few_states}
use Rattle.cycles.specs.Greedy.{WorkAfter}
use Rattle.cycles.specs.Rotation.{LeastRotated}

-- The best cycle

-- a cycle of the diagram in which no state occurs twice, in the rotation that comes first; it never collides, and every rival that never collides,
-- of m latencies of any size with sum T, has T × K at least S × m
pub record Best (g : ℕ) (T : Table) (q : ℕ) (cycle : List ℕ) : Type 0 where
  pub latencies : Cycle g cycle
  pub diagram : CycleFrom g (width (vector_word T q)) (vector_word T q) cycle
  pub rotation : LeastRotated cycle
  pub never : NeverCollides T q cycle
  pub least : (rival : List ℕ) → Cycle g rival → NeverCollides T q rival → total cycle * length rival ≤ total rival * length cycle

-- any two best cycles have the same average, S × K' = S' × K: free is which of them is found, and not its average (`same_average`, proofs/BestLaws.antt)
abbrev pub SameAverage : Type 0
SameAverage = (g : ℕ) (T : Table) (q : ℕ) (a b : List ℕ) → Best g T q a → Best g T q b → total a * length b ≡ total b * length a

-- The plan

-- what a call that hands out a plan answers, its plan aside
abbrev pub answer_of : Result Plan Refusal → Answer
answer_of (Ok _) = Ok tt
answer_of (Err why) = Err why

-- tag, K, S, and the cycle in 256 bytes of which the rest are 0
abbrev pub plan_of : ℕ → List ℕ → Plan
plan_of q cycle = record {
  tag = q;
  count = length cycle;
  sum = total cycle;
  latencies = cycle ++ replicate (256 - length cycle) 0;
}

-- the plan is stored in place of an older one
abbrev pub with_plan : FunctionUnit → Plan → FunctionUnit
with_plan u p = record {
  functions = u.functions;
  segments = u.segments;
  columns = u.columns;
  marks = u.marks;
  plan = p;
}

-- Search

unfoldable pub search_answer : FunctionUnit → ℕ → ℕ → Answer
search_answer u q room = and_then (tag_answer u q) (check (leb 16000 room) ShortWork (few_states 1 (marked u) q))

-- Free is which of several cycles of least average is found.
pub record Found (u : FunctionUnit) (q : ℕ) (after : FunctionUnit) : Type 0 where
  pub cycle : List ℕ
  pub few : length cycle ≤ 256
  pub best : Best 1 (marked u) q cycle
  pub unit : after ≡ with_plan u (plan_of q cycle)

-- Free are the first 2,048 working words, unless the search is refused by 1, 2 or 5 (`WorkAfter`).
pub record SearchPromise (u : FunctionUnit) (q : ℕ) (before words : List ℕ) (answer : Answer) (after : FunctionUnit) : Type 0 where
  pub says : answer ≡ search_answer u q (length before)
  pub kept : (why : Refusal) → answer ≡ Err why → after ≡ u
  pub found : answer ≡ Ok tt → Found u q after
  pub work : WorkAfter answer before words

-- Read

unfoldable pub read_answer : FunctionUnit → Answer
read_answer u = check (sound_of u) NotSound (check (not (eqb u.plan.tag 0)) NoPlan (Ok tt))

-- the plan by value; none where the read is refused
abbrev pub handing : Answer → Plan → Result Plan Refusal
handing (Ok _) p = Ok p
handing (Err why) p = Err why

unfoldable pub read_of : FunctionUnit → Result Plan Refusal
read_of u = handing (read_answer u) u.plan
