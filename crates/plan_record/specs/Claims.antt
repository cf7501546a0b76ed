-- What the record promises as a whole: which bytes and which plans are accepted, that either view gives the other, and that what is written is read.
-- All are proved (proofs/Claims.antt). Each goes by what the calls answer and leave.
use Rattle.std.specs.Prelude.{ℕ, ◌≤◌, ◌<◌, ◌≡◌, true, ◌⊎◌, ◌↔◌, List, [], length, take, Result, Ok, Err}
use Rattle.unit.specs.declared.Plan.{Plan}
use Rattle.unit.specs.declared.Refusal.{Refusal}
use Rattle.unit.specs.declared.Refusal.TheVariants.{BadRecord, ShortOutput}
use Rattle.collision.specs.Pipeline.{total}
use Rattle.plan_record.specs.Record.{Recordable, ring_of, IsRing, record_of, longest_record}
use Rattle.plan_record.specs.Read.{report_answer, report_list, load_answer, load_ring, ring_from_list, list_from_ring}
use Rattle.plan_record.specs.Write.{Holds, cycle_in, holds_cycle, write_answer, write_out}

-- The bytes

-- the ring's bits are those of the papers
abbrev pub RingMeans : Type 0
RingMeans = (l : List ℕ) → Recordable l → IsRing l (ring_of l)

-- the room that always suffices
abbrev pub NoLonger : Type 0
NoLonger = (l : List ℕ) → Recordable l → length (record_of l) ≤ longest_record

-- Which bytes the readers accept, and what they show

-- bytes that some cycle of 1 to 256 latencies, each 1 to 32, gives
pub record GivenBytes (bytes : List ℕ) : Type 0 where
  pub cycle : List ℕ
  pub recordable : Recordable cycle
  pub gives : bytes ≡ record_of cycle

-- a reader accepts: it shows a number
pub record Accepted (shown : Result ℕ Refusal) : Type 0 where
  pub number : ℕ
  pub shows : shown ≡ Ok number

-- of a cycle the report reader shows K and the list, the loader S and the ring
pub record Shows (bytes l : List ℕ) : Type 0 where
  pub count : report_answer bytes ≡ Ok (length l)
  pub list : report_list bytes ≡ l
  pub sum : load_answer bytes ≡ Ok (total l)
  pub ring : load_ring bytes ≡ ring_of l

-- 15 from both, and nothing shown
pub record Refused15 (bytes : List ℕ) : Type 0 where
  pub report : report_answer bytes ≡ Err BadRecord
  pub list : report_list bytes ≡ []
  pub load : load_answer bytes ≡ Err BadRecord
  pub ring : load_ring bytes ≡ []

-- each accepts where some cycle gives the bytes, and shows that cycle; else each refuses
pub record ReadAlike (bytes : List ℕ) : Type 0 where
  pub report : Accepted (report_answer bytes) ↔ GivenBytes bytes
  pub load : Accepted (load_answer bytes) ↔ GivenBytes bytes
  pub shown : (given : GivenBytes bytes) → Shows bytes given.cycle
  pub refused : (GivenBytes bytes → ⊥) → Refused15 bytes

-- both readers accept the same records: exactly those that some such cycle gives; anything else both refuse by 15
abbrev pub AcceptedExactly : Type 0
AcceptedExactly = (bytes : List ℕ) → ReadAlike bytes

-- One view from the other

-- K, the list, S and the ring, each from the other reader's
pub record OneFromOther (count : ℕ) (list : List ℕ) (sum : ℕ) (ring : List ℕ) : Type 0 where
  pub list_worked : list ≡ list_from_ring sum ring
  pub count_worked : count ≡ length (list_from_ring sum ring)
  pub ring_worked : ring ≡ ring_from_list count list
  pub sum_worked : sum ≡ total (take count list)

-- on accepted bytes the list is worked out from what the loader shows, and the ring from what the report shows
abbrev pub EitherView : Type 0
EitherView =
    (bytes : List ℕ) (K S : ℕ) → report_answer bytes ≡ Ok K → load_answer bytes ≡ Ok S
    → OneFromOther K (report_list bytes) S (load_ring bytes)

-- an accepted record is the record of the cycle read from it
abbrev pub ReadWritten : Type 0
ReadWritten = (bytes : List ℕ) → Accepted (report_answer bytes) → record_of (report_list bytes) ≡ bytes

-- both readers show the same of the one and of the other
pub record SameShown (a b : List ℕ) : Type 0 where
  pub report : report_answer a ≡ report_answer b
  pub list : report_list a ≡ report_list b
  pub load : load_answer a ≡ load_answer b
  pub ring : load_ring a ≡ load_ring b

-- of more bytes than a record can have, one more than it can have tell as much as all
abbrev pub FrontTells : Type 0
FrontTells = (bytes : List ℕ) (n : ℕ) → longest_record < n → SameShown (take n bytes) bytes

-- Which plans the writer takes

-- a plan that some such cycle gives
pub record GivenPlan (p : Plan) : Type 0 where
  pub cycle : List ℕ
  pub recordable : Recordable cycle
  pub holds : Holds p cycle

-- the test of a plan passes for exactly these
abbrev pub HoldsExactly : Type 0
HoldsExactly = (p : Plan) → (holds_cycle p ≡ true) ↔ GivenPlan p

-- the writer's refusals are 15 and 6 alone: 15 for exactly the plans that no such cycle gives and those of tag 0, and 6 never where there is room for the longest record
pub record WriterAt (p : Plan) (room : ℕ) : Type 0 where
  pub numbers : (why : Refusal) → write_answer p room ≡ Err why → (why ≡ BadRecord) ⊎ (why ≡ ShortOutput)
  pub fifteen : (write_answer p room ≡ Err BadRecord) ↔ ((p.tag ≡ 0) ⊎ (GivenPlan p → ⊥))
  pub suffices : longest_record ≤ room → write_answer p room ≡ Err ShortOutput → ⊥

abbrev pub PlanExactly : Type 0
PlanExactly = (p : Plan) (room : ℕ) → WriterAt p room

-- two plans differ in their tags alone, and neither is 0
pub record OtherTag (p q : Plan) : Type 0 where
  pub count : p.count ≡ q.count
  pub sum : p.sum ≡ q.sum
  pub latencies : p.latencies ≡ q.latencies
  pub one : p.tag ≡ 0 → ⊥
  pub other : q.tag ≡ 0 → ⊥

-- tags other than 0 aren't tested
abbrev pub TagUntested : Type 0
TagUntested =
    (p q : Plan) → OtherTag p q → (bytes : List ℕ) → (write_answer p (length bytes) ≡ write_answer q (length bytes)) × (write_out p bytes ≡ write_out q bytes)

-- Written and read

-- both readers show the plan's cycle, and the plan holds the list that is shown
pub record ReadBack (p : Plan) (written : List ℕ) : Type 0 where
  pub shows : Shows written (cycle_in p)
  pub holds : Holds p (report_list written)

-- what was written, as many bytes as the writer tells, is read
abbrev pub WrittenRead : Type 0
WrittenRead = (p : Plan) (bytes : List ℕ) (n : ℕ) → write_answer p (length bytes) ≡ Ok n → ReadBack p (take n (write_out p bytes))
