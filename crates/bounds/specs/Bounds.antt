-- The bounds on the average latency S / K of a function's cycles, with the least interval g (1 in every call).
use Rattle.std.specs.Prelude.{ℕ, ◌+◌, ◌*◌, ◌≤◌, ◌≡◌, true, List, [], ◌∷◌, ◌++◌, length, get_or, Ok}
use Rattle.words.specs.Bits.{is_set}
use Rattle.words.specs.Below.{count_below}
use Rattle.unit.specs.declared.Plan.{Plan}
use Rattle.unit.specs.declared.FunctionUnit.{FunctionUnit}
use Rattle.unit.specs.Table.{Table}
use Rattle.unit.specs.Unit.{marked, good_counts}
use Rattle.unit.specs.Calls.{fresh_of}
use Rattle.collision.specs.Vector.{vector_word, bound_of}
use Rattle.cycles.specs.declared.Counted.{Counted}
use Rattle.cycles.specs.Greedy.{greedy_answer}
use Rattle.planner.specs.Sheet.{Call, Reply, Run, Sheet, start, next, fed}
use Rattle.planner.specs.Sheet.Reply.{accepted, handed}

-- u, the number of 1s in a word of 32 bits
abbrev pub ones_of : ℕ → ℕ
ones_of w = count_below 32 (is_set w)

-- K latencies of q with sum S: b × K ≤ S ≤ (u + g) × K, where b is Bound; and so where b is the largest number of marks in one segment, which is no
-- larger (`in_bounds_marks`, proofs/BoundsLaws.antt)
pub record InBounds (g : ℕ) (T : Table) (q K S : ℕ) : Type 0 where
  pub lower : bound_of T q * K ≤ S
  pub upper : S ≤ (ones_of (vector_word T q) + g) * K

-- every plan that a caller is handed is in bounds, for the table of the sheet as it stands before the call
abbrev pub HandedInBounds : Sheet → List Call → List Reply → Type 0
HandedInBounds t [] replies = Unit {0}
HandedInBounds t (k ∷ calls) [] = Unit {0}
HandedInBounds t (k ∷ calls) (a ∷ replies) =
    ((p : Plan) → a ≡ handed p → InBounds 1 t.table p.tag p.count p.sum) × HandedInBounds (next t k) calls replies

-- every list of calls from a fresh unit (`every_plan`, proofs/EveryPlan.antt)
abbrev pub EveryPlan : Type 0
EveryPlan =
    (f s c : ℕ) → good_counts f s c ≡ true → (calls : List Call) (replies : List Reply)
    → Run (fresh_of f s c).unit calls replies → HandedInBounds (start f s c) calls replies

-- the same by position: the reply to a call, and the sheet that was fed the calls before it (`every_plan_at`)
abbrev pub EveryPlanAt : Type 0
EveryPlanAt =
    (f s c : ℕ) → good_counts f s c ≡ true → (before : List Call) (k : Call) (rest : List Call) (replies : List Reply)
    → Run (fresh_of f s c).unit (before ++ k ∷ rest) replies
    → (p : Plan) → get_or replies (length before) accepted ≡ handed p → InBounds 1 (fed (start f s c) before).table p.tag p.count p.sum

-- every greedy cycle that a call hands out, of any unit (`every_greedy`, proofs/BoundsLaws.antt)
abbrev pub EveryGreedy : Type 0
EveryGreedy =
    (u : FunctionUnit) (q room out : ℕ) (c : Counted) → greedy_answer u q room out ≡ Ok c
    → InBounds 1 (marked u) q c.count c.sum
