-- Every list of calls on a unit, held against a sheet that is fed the calls and their arguments alone.
use Rattle.std.specs.Prelude.{ℕ, ◌-◌, ◌≤◌, ◌≡◌, true, false, cond, List, [], ◌∷◌, leb, eqb, length, take, drop, replicate, Result, Ok, Err}
use Rattle.unit.specs.declared.Plan.{Plan}
use Rattle.unit.specs.declared.FunctionUnit.{FunctionUnit}
use Rattle.unit.specs.declared.Outcome.{Outcome}
use Rattle.unit.specs.declared.Refusal.{Refusal}
use Rattle.unit.specs.Answers.{Answer}
use Rattle.unit.specs.Numbers.{number_of}
use Rattle.unit.specs.Table.{Table, empty, changed}
use Rattle.unit.specs.Unit.{inside, marked, good_counts, sound_of}
use Rattle.unit.specs.Calls.{fresh_of, mark_of, unmark_of}
use Rattle.collision.specs.Pipeline.{total}
use Rattle.diagram.specs.Answers.{states_of}
use Rattle.planner.specs.Plans.{Best, SearchPromise, read_of}

-- The calls, and what a caller is told

-- a mark or an unmark of a tag, a segment and a column; a search for a tag with so many working words; a read
pub data Call : Type 0 where
  Mark : ℕ → ℕ → ℕ → Call
  Unmark : ℕ → ℕ → ℕ → Call
  Search : ℕ → ℕ → Call
  Read : Call

pub data Reply : Type 0 where
  accepted : Reply
  refused : ℕ → Reply
  handed : Plan → Reply

abbrev pub reply_to : Answer → Reply
reply_to (Ok _) = accepted
reply_to (Err why) = refused (number_of why)

abbrev pub read_reply : Result Plan Refusal → Reply
read_reply (Ok p) = handed p
read_reply (Err why) = refused (number_of why)

-- A run

-- a search with that many working words, whatever they hold, and what it leaves
pub record Searching (u : FunctionUnit) (q room : ℕ) (a : Reply) (after : FunctionUnit) : Type 0 where
  pub before : List ℕ
  pub words : List ℕ
  pub lent : length before ≡ room
  pub answer : Answer
  pub promise : SearchPromise u q before words answer after
  pub told : a ≡ reply_to answer

-- one call on a unit, as its contract states it: what the caller is told, and the unit that is left
abbrev pub Step : FunctionUnit → Call → Reply → FunctionUnit → Type 0
Step u (Mark q s c) a after = (r : Outcome) × (r ≡ mark_of u q s c) × (a ≡ reply_to r.answer) × (after ≡ r.unit)
Step u (Unmark q s c) a after = (r : Outcome) × (r ≡ unmark_of u q s c) × (a ≡ reply_to r.answer) × (after ≡ r.unit)
Step u (Search q room) a after = Searching u q room a after
Step u Read a after = (r : Result Plan Refusal) × (r ≡ read_of u) × (a ≡ read_reply r) × (after ≡ u)

-- a list of calls, each on the unit as the one before left it
abbrev pub Run : FunctionUnit → List Call → List Reply → Type 0
Run u [] [] = Unit {0}
Run u [] (a ∷ replies) = ⊥
Run u (k ∷ calls) [] = ⊥
Run u (k ∷ calls) (a ∷ replies) = (after : FunctionUnit) × Step u k a after × Run after calls replies

-- The sheet

-- the three counts, a table of marks, and an owed tag
pub record Sheet : Type 0 where
  pub functions : ℕ
  pub segments : ℕ
  pub columns : ℕ
  pub table : Table
  pub owed : ℕ

abbrev pub start : ℕ → ℕ → ℕ → Sheet
start f s c = record { functions = f; segments = s; columns = c; table = empty; owed = 0 }

-- an accepted edit makes the owed tag 0
abbrev pub edited : Sheet → Table → Sheet
edited t m = record { functions = t.functions; segments = t.segments; columns = t.columns; table = m; owed = 0 }

-- an accepted search makes its own tag the owed one
abbrev pub owing : Sheet → ℕ → Sheet
owing t q = record { functions = t.functions; segments = t.segments; columns = t.columns; table = t.table; owed = q }

-- the lowest number that applies to an edit, or 0
unfoldable pub spot_number : Sheet → ℕ → ℕ → ℕ → ℕ
spot_number t q s c =
    cond (inside q t.functions)
    (cond (inside s t.segments)
    (cond (inside c t.columns) 0 4)
    3)
    2

-- the lowest number that applies to a search, or 0; for 7 the diagram is that of the tag's marks in the table
unfoldable pub search_number : Sheet → ℕ → ℕ → ℕ
search_number t q room =
    cond (inside q t.functions)
    (cond (leb 16000 room)
    (cond (leb (length (states_of 1 t.table q)) 256) 0 7)
    5)
    2

-- the sheet after a call: a refused call and a read change nothing
abbrev pub next : Sheet → Call → Sheet
next t (Mark q s c) = cond (eqb (spot_number t q s c) 0) (edited t (changed t.table q s c true)) t
next t (Unmark q s c) = cond (eqb (spot_number t q s c) 0) (edited t (changed t.table q s c false)) t
next t (Search q room) = cond (eqb (search_number t q room) 0) (owing t q) t
next t Read = t

-- the sheet after a list of calls
unfoldable pub fed : Sheet → List Call → Sheet
fed t [] = t
fed t (k ∷ calls) = fed (next t k) calls

-- The claim

-- what a call with this number on the sheet is told
abbrev pub told : ℕ → Reply
told n = cond (eqb n 0) accepted (refused n)

-- a plan that the sheet owes: the cycle is its first K bytes of 256, S is their sum, and the other bytes are 0
pub record Owed (t : Sheet) (p : Plan) : Type 0 where
  pub tag : p.tag ≡ t.owed
  pub long : length p.latencies ≡ 256
  pub some : 1 ≤ p.count
  pub few : p.count ≤ 256
  pub sum : p.sum ≡ total (take p.count p.latencies)
  pub rest : drop p.count p.latencies ≡ replicate (256 - p.count) 0
  pub best : Best 1 t.table t.owed (take p.count p.latencies)

pub record ReadRight (t : Sheet) (a : Reply) : Type 0 where
  pub none : t.owed ≡ 0 → a ≡ refused 8
  pub some : (t.owed ≡ 0 → ⊥) → (p : Plan) × (a ≡ handed p) × Owed t p

-- what a caller is told is what the sheet says
abbrev pub Agrees : Sheet → Call → Reply → Type 0
Agrees t (Mark q s c) a = a ≡ told (spot_number t q s c)
Agrees t (Unmark q s c) a = a ≡ told (spot_number t q s c)
Agrees t (Search q room) a = a ≡ told (search_number t q room)
Agrees t Read a = ReadRight t a

-- the sheet is fed the calls one after the other, and each reply agrees with it as it stands before its call
abbrev pub Right : Sheet → List Call → List Reply → Type 0
Right t [] [] = Unit {0}
Right t [] (a ∷ replies) = ⊥
Right t (k ∷ calls) [] = ⊥
Right t (k ∷ calls) (a ∷ replies) = Agrees t k a × Right (next t k) calls replies

-- every list of calls from a fresh unit (`every_list`, proofs/EveryList.antt)
abbrev pub EveryList : Type 0
EveryList =
    (f s c : ℕ) → good_counts f s c ≡ true → (calls : List Call) (replies : List Reply)
    → Run (fresh_of f s c).unit calls replies → Right (start f s c) calls replies

-- The unit that a run leaves

-- a run (`leaves_run`, proofs/EveryList.antt), with the unit after its last call
abbrev pub Leaves : FunctionUnit → List Call → List Reply → FunctionUnit → Type 0
Leaves u [] [] left = left ≡ u
Leaves u [] (a ∷ replies) left = ⊥
Leaves u (k ∷ calls) [] left = ⊥
Leaves u (k ∷ calls) (a ∷ replies) left = (after : FunctionUnit) × Step u k a after × Leaves after calls replies left

-- a unit that agrees with the sheet: its counts, its marks, and the plan that is owed, of a tag that it has
pub record Noted (u : FunctionUnit) (t : Sheet) : Type 0 where
  pub sound : sound_of u ≡ true
  pub functions : u.functions ≡ t.functions
  pub segments : u.segments ≡ t.segments
  pub columns : u.columns ≡ t.columns
  pub table : marked u ≡ t.table
  pub tag : u.plan.tag ≡ t.owed
  pub member : (t.owed ≡ 0 → ⊥) → inside t.owed t.functions ≡ true
  pub plan : (t.owed ≡ 0 → ⊥) → Owed t u.plan

-- every list of calls from a fresh unit leaves a unit that agrees with the sheet (`every_unit`, proofs/EveryList.antt)
abbrev pub EveryUnit : Type 0
EveryUnit =
    (f s c : ℕ) → good_counts f s c ≡ true → (calls : List Call) (replies : List Reply) (u : FunctionUnit)
    → Leaves (fresh_of f s c).unit calls replies u → Noted u (fed (start f s c) calls)
