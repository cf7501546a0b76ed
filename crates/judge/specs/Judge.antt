-- Judging a cycle, and the better of two.
use Rattle.std.specs.Prelude.{Bool, cond, not, ◌&&◌, List, [], ℕ, ◌+◌, ◌-◌, ◌*◌, leb, ltb, eqb, length, get_or, take, Result, Ok, Err}
use Rattle.words.specs.Below.{some_below}
use Rattle.unit.specs.declared.FunctionUnit.{FunctionUnit}
use Rattle.unit.specs.declared.Refusal.TheVariants.{BadCycle}
use Rattle.unit.specs.Answers.{Answer}
use Rattle.unit.specs.Table.{Table}
use Rattle.unit.specs.Unit.{inside, marked}
use Rattle.unit.specs.Calls.{check, tag_answer}
use Rattle.collision.specs.Pipeline.{start_at, total}
use Rattle.collision.specs.Vector.{collides}
use Rattle.unit.specs.declared.Refusal.{Refusal}

-- Judge

-- 1 to 256 latencies, none of them 0
unfoldable pub good_cycle : List ℕ → Bool
good_cycle l = inside (length l) 256 && not (some_below (length l) (λ i. eqb (get_or l i 0) 0))

-- some start of the first turn collides with one of the 32 starts after it
unfoldable pub meets : Table → ℕ → List ℕ → Bool
meets T q l = some_below (length l) (λ i. some_below 32 (λ k. collides T q q (start_at l (i + k + 1) - start_at l i)))

abbrev pub verdict : Answer → Bool → Result Bool Refusal
verdict (Ok _) met = Ok (not met)
verdict (Err why) met = Err why

unfoldable pub cycle_answer : Answer → List ℕ → Answer
cycle_answer (Ok _) l = check (good_cycle l) BadCycle (Ok tt)
cycle_answer (Err why) l = Err why

unfoldable pub judge_answer : FunctionUnit → ℕ → List ℕ → Result Bool Refusal
judge_answer u q l = verdict (cycle_answer (tag_answer u q) l) (meets (marked u) q l)

-- Better of two

-- the first k of the list are a cycle of 1 to 256 latencies, none of them 0
unfoldable pub counted : List ℕ → ℕ → Bool
counted l k = leb k (length l) && good_cycle (take k l)

-- the leading part of the first list or of the second: that of lower average, the first when equal; the empty part where either is no cycle
unfoldable pub better_of : List ℕ → ℕ → List ℕ → ℕ → List ℕ
better_of a m b n =
    cond (counted a m && counted b n)
    (cond (ltb (total (take n b) * m) (total (take m a) * n)) (take n b) (take m a))
    []
