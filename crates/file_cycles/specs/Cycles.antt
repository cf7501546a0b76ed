-- When a cycle of a function of a unit file is refused, and what the search hands out. Assumes nothing.
use Rattle.std.specs.Prelude.{ℕ, ◌≡◌, List, length, Ok}
use Rattle.words.specs.Bytes.{narrow}
use Rattle.unit.specs.Answers.{Answer}
use Rattle.unit.specs.Numbers.{number_in}
use Rattle.unit.specs.Calls.{handed}
use Rattle.unit_file.specs.Read.{unit_in, table_in, file_then}
use Rattle.collision.specs.Pipeline.{total}
use Rattle.diagram.specs.Answers.{written}
use Rattle.cycles.specs.Greedy.{greedy_refusal, WorkAfter}
use Rattle.planner.specs.Plans.{Best}

-- greedy and search alike
unfoldable pub cycle_refusal : List ℕ → ℕ → ℕ → ℕ → Answer
cycle_refusal file q work out = file_then file (greedy_refusal (unit_in file) (narrow q) work out)

-- Free are which of several cycles of least average is handed out, and the working words as `WorkAfter` says.
pub record SearchHanded (file : List ℕ) (q : ℕ) (work workAfter out outAfter : List ℕ) (count countAfter sum sumAfter answer : ℕ) : Type 0 where
  pub cycle : List ℕ
  pub best : cycle_refusal file q (length work) (length out) ≡ Ok tt → Best 1 (table_in file) (narrow q) cycle
  pub says : answer ≡ number_in (cycle_refusal file q (length work) (length out))
  pub bytes : outAfter ≡ written (cycle_refusal file q (length work) (length out)) cycle out
  pub counted : countAfter ≡ handed (cycle_refusal file q (length work) (length out)) (length cycle) count
  pub summed : sumAfter ≡ handed (cycle_refusal file q (length work) (length out)) (total cycle) sum
  pub words : WorkAfter (cycle_refusal file q (length work) (length out)) work workAfter
