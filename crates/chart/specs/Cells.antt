-- The cells of a chart: which task starts in a time unit, and which one occupies a segment.
use Rattle.std.specs.Prelude.{ℕ, zero, suc, ◌+◌, ◌-◌, ◌%◌, Bool, cond, not, ◌&&◌, leb, ltb, eqb}
use Rattle.words.specs.Below.{count_below}
use Rattle.unit.specs.declared.Plan.{Plan}
use Rattle.unit.specs.declared.FunctionUnit.{FunctionUnit}
use Rattle.unit.specs.Unit.{marked}
use Rattle.simulator.specs.Play.{unit_after}

-- the letter of task k, tasks being counted from 0: A to Z, a to z, and then A again
-- (`LettersApart`, crate chart_claims: two tasks in one time unit have different letters)
abbrev pub letter : ℕ → ℕ
letter k = cond (ltb (k % 52) 26) (65 + k % 52) (71 + k % 52)

-- `.`, where there is no task
abbrev pub none : ℕ
none = 46

-- how many tasks start in the first n units
unfoldable pub tasks_before : FunctionUnit → Plan → ℕ → ℕ
tasks_before u p n = count_below n (λ k. (unit_after u p k).started)

-- the task that starts in the unit after n units
unfoldable pub start_cell : FunctionUnit → Plan → ℕ → ℕ
start_cell u p n = cond (unit_after u p n).started (letter (tasks_before u p n)) none

-- A task in column c + 1, where the segment is marked, started c units before: what the row of starts has there, or else what other columns give.
abbrev pub next_cell : Bool → (ℕ → ℕ) → ℕ → ℕ → ℕ → ℕ
next_cell marked starts n c others = cond (leb c n && marked && not (eqb (starts (n - c)) none)) (starts (n - c)) others

-- the task that occupies a segment in the unit after n units, by the row of starts and the marks of the first k columns
unfoldable pub cell_of : (ℕ → Bool) → (ℕ → ℕ) → ℕ → ℕ → ℕ
cell_of marks starts n zero = none
cell_of marks starts n (suc c) = next_cell (marks (c + 1)) starts n c (cell_of marks starts n c)

-- the task that occupies a segment in the unit after n units
abbrev pub segment_cell : FunctionUnit → Plan → ℕ → ℕ → ℕ
segment_cell u p s n = cell_of (marked u p.tag s) (start_cell u p) n u.columns
