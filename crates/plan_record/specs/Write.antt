-- What writing a plan as a record answers, and the lent bytes afterwards. The writer takes a plan without its unit.
use Rattle.std.specs.Prelude.{ℕ, ◌-◌, ◌≡◌, Bool, not, ◌&&◌, List, ◌++◌, leb, eqb, length, take, replicate, Result, Ok}
use Rattle.text.specs.Text.{same}
use Rattle.unit.specs.declared.Plan.{Plan}
use Rattle.unit.specs.declared.Refusal.TheVariants.{BadRecord, ShortOutput}
use Rattle.unit.specs.Answers.{Answer}
use Rattle.unit.specs.Calls.{check}
use Rattle.unit_file.specs.Write.{length_answer, file_in_front}
use Rattle.collision.specs.Pipeline.{total}
use Rattle.plan_record.specs.Record.{recordable, record_of}
use Rattle.unit.specs.declared.Refusal.{Refusal}

-- a plan holds a cycle: K, S, and the latencies in 256 bytes of which the rest are 0
pub record Holds (p : Plan) (l : List ℕ) : Type 0 where
  pub count : p.count ≡ length l
  pub sum : p.sum ≡ total l
  pub latencies : p.latencies ≡ l ++ replicate (256 - length l) 0

-- its first K bytes
abbrev pub cycle_in : Plan → List ℕ
cycle_in p = take p.count p.latencies

-- the plan is what some cycle of 1 to 256 latencies, each 1 to 32, gives: that of its first K bytes, S being their sum and its bytes past K being 0
-- (`HoldsExactly`, specs/Claims.antt)
unfoldable pub holds_cycle : Plan → Bool
holds_cycle p =
    recordable (cycle_in p)
    && (eqb p.count (length (cycle_in p))
    && (eqb p.sum (total (cycle_in p)) && same p.latencies (cycle_in p ++ replicate (256 - p.count) 0)))

-- tag 0 is no plan; other tags aren't tested
unfoldable pub writable : Plan → Bool
writable p = not (eqb p.tag 0) && holds_cycle p

-- 15 for a plan of tag 0 or one that no cycle gives, then 6 for an output shorter than the record
unfoldable pub write_refusal : Plan → ℕ → Answer
write_refusal p room =
    check (writable p) BadRecord
    (check (leb (length (record_of (cycle_in p))) room) ShortOutput (Ok tt))

-- the record's length
unfoldable pub write_answer : Plan → ℕ → Result ℕ Refusal
write_answer p room = length_answer (write_refusal p room) (length (record_of (cycle_in p)))

-- the record fills the front of the lent bytes, the others stay as before; a refused call changes none
unfoldable pub write_out : Plan → List ℕ → List ℕ
write_out p bytes = file_in_front (write_refusal p (length bytes)) (record_of (cycle_in p)) bytes
