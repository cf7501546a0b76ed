-- What the private functions try and hand out. No public contract cites this file.
use Rattle.std.specs.Prelude.{ℕ, List, leb, take, Result, Ok, Err}
use Rattle.unit.specs.declared.Plan.{Plan}
use Rattle.unit.specs.declared.Refusal.TheVariants.{ShortWork, ShortOutput}
use Rattle.unit.specs.Answers.{Answer}
use Rattle.unit.specs.Numbers.{number_of}
use Rattle.unit.specs.Calls.{check, and_then}
use Rattle.text.specs.Text.{put_in}
use Rattle.cycles.specs.declared.Counted.{Counted}
use Rattle.unit.specs.declared.Refusal.{Refusal}

-- the greedy cycle of the unit of a file; a refused file's refusal goes first
abbrev pub read_then : Answer → Result Counted Refusal → Result Counted Refusal
read_then (Ok _) found = found
read_then (Err why) found = Err why

-- what is told of it, and what it hands out
abbrev pub cycle_told : Result Counted Refusal → ℕ
cycle_told (Ok n) = 0
cycle_told (Err why) = number_of why

abbrev pub cycle_count : Result Counted Refusal → ℕ → ℕ
cycle_count (Ok n) old = n.count
cycle_count (Err why) old = old

abbrev pub cycle_sum : Result Counted Refusal → ℕ → ℕ
cycle_sum (Ok n) old = n.sum
cycle_sum (Err why) old = old

-- what a search tries before it is made
unfoldable pub search_check : Answer → Answer → ℕ → ℕ → Answer
search_check read tagged work out =
    and_then read
    (and_then tagged
    (check (leb 16000 work) ShortWork
    (check (leb 256 out) ShortOutput (Ok tt))))

-- the cycle of a plan at the front of lent bytes
abbrev pub plan_front : Plan → List ℕ → List ℕ
plan_front plan bytes = put_in bytes 0 (take plan.count plan.latencies)
