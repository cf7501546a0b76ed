-- Sets of whole numbers of which every two differ by a forbidden latency. Two tasks never start as far apart as two of the numbers, so that the times
-- of all starts, each moved by every number, are different: the size of the set is a lower bound on the average latency (`lower`, proofs/LowerLaws.antt).
use Rattle.std.specs.Prelude.{◌≡◌, true, ◌↔◌, List, ℕ, ◌-◌, ◌≤◌, ◌<◌, length, get_or, Ok}
use Rattle.words.specs.Below.{count_below}
use Rattle.unit.specs.declared.FunctionUnit.{FunctionUnit}
use Rattle.unit.specs.Table.{Table}
use Rattle.unit.specs.Unit.{marked}
use Rattle.collision.specs.Pipeline.{Forbidden}
use Rattle.collision.specs.Answers.{marks_answer, bound_answer}
use Rattle.diagram.specs.States.{Distinct}

-- no number twice, and every two differ by a forbidden latency; a set of one number or none always counts
pub record Clique (T : Table) (q : ℕ) (set : List ℕ) : Type 0 where
  pub distinct : Distinct set
  pub differ : (i j : ℕ) → i < length set → j < length set → get_or set i 0 < get_or set j 0 → Forbidden T q (get_or set j 0 - get_or set i 0)

-- n is the size of the largest such set (`largest_means`, proofs/LargestLaws.antt: Bound is)
pub record IsLargestClique (T : Table) (q n : ℕ) : Type 0 where
  pub reached : (set : List ℕ) × Clique T q set × (length set ≡ n)
  pub most : (set : List ℕ) → Clique T q set → length set ≤ n

-- The paper's reading: the most marks in one row of any table that has the same collision vector

-- two tables forbid q the same latencies
abbrev pub SameVector : Table → Table → ℕ → Type 0
SameVector T U q = (t : ℕ) → 1 ≤ t → Forbidden T q t ↔ Forbidden U q t

-- the marks stand in columns 1 to 32
abbrev pub InColumns : Table → Type 0
InColumns U = (q s c : ℕ) → U q s c ≡ true → (1 ≤ c) × (c ≤ 32)

-- n is that number of marks (`row_means`, proofs/RowLaws.antt: Bound is): no row of such a table has more, however many columns it has, and one of 32
-- columns has as many
pub record IsRowMaximum (T : Table) (q n : ℕ) : Type 0 where
  pub reached : (U : Table) × InColumns U × SameVector T U q × ((s : ℕ) × (1 ≤ s) × (count_below 33 (λ c. U q s c) ≡ n))
  pub most : (U : Table) → SameVector T U q → (s columns : ℕ) → count_below columns (λ c. U q s c) ≤ n

-- What the calls answer, for every unit and tag

-- a bound is the size of the largest set, and the paper's row maximum (`every_bound`, proofs/RowLaws.antt)
abbrev pub EveryBound : Type 0
EveryBound = (u : FunctionUnit) (q n : ℕ) → bound_answer u q ≡ Ok n → IsLargestClique (marked u) q n × IsRowMaximum (marked u) q n

-- no segment has more marks than the bound (`every_marks`, proofs/SegmentLaws.antt)
abbrev pub EveryMarks : Type 0
EveryMarks = (u : FunctionUnit) (q l n : ℕ) → marks_answer u q ≡ Ok l → bound_answer u q ≡ Ok n → l ≤ n
