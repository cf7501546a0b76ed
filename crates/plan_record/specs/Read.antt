-- What the report reader and the loader show of a record, and how each view gives the other.
use Rattle.std.specs.Prelude.{ℕ, zero, suc, ◌+◌, ◌-◌, Bool, cond, not, ◌&&◌, List, [], ◌∷◌, take, drop, Result, Ok, Err}
use Rattle.text.specs.Text.{same}
use Rattle.unit.specs.declared.Refusal.TheVariants.{BadRecord}
use Rattle.unit.specs.Answers.{Answer}
use Rattle.unit.specs.Calls.{check}
use Rattle.unit_file.specs.Read.{word16}
use Rattle.plan_record.specs.Record.{recordable, ring_of, ring_bit, record_of}
use Rattle.unit.specs.declared.Refusal.{Refusal}

-- What stands in the bytes

-- K and the list
abbrev pub count_in : List ℕ → ℕ
count_in bytes = word16 bytes 0

abbrev pub list_in : List ℕ → List ℕ
list_in bytes = take (count_in bytes) (drop 8 bytes)

-- S and the ring
abbrev pub sum_in : List ℕ → ℕ
sum_in bytes = word16 bytes 2

abbrev pub ring_in : List ℕ → List ℕ
ring_in bytes = drop (8 + count_in bytes) bytes

-- Which bytes are a record

-- the list that stands in them is a cycle that a record holds, and they are its record; so they are exactly the bytes that some such cycle gives
-- (`AcceptedExactly`, specs/Claims.antt)
unfoldable pub is_record : List ℕ → Bool
is_record bytes = recordable (list_in bytes) && same bytes (record_of (list_in bytes))

-- 15, for both readers
unfoldable pub record_answer : List ℕ → Answer
record_answer bytes = check (is_record bytes) BadRecord (Ok tt)

abbrev pub showing : Answer → ℕ → Result ℕ Refusal
showing (Ok _) n = Ok n
showing (Err why) n = Err why

-- a part of the record, empty where it is refused
abbrev pub showing_part : Answer → List ℕ → List ℕ
showing_part (Ok _) part = part
showing_part (Err why) part = []

-- The report reader shows K and the list

unfoldable pub report_answer : List ℕ → Result ℕ Refusal
report_answer bytes = showing (record_answer bytes) (count_in bytes)

unfoldable pub report_list : List ℕ → List ℕ
report_list bytes = showing_part (record_answer bytes) (list_in bytes)

-- The loader shows S and the ring

unfoldable pub load_answer : List ℕ → Result ℕ Refusal
load_answer bytes = showing (record_answer bytes) (sum_in bytes)

unfoldable pub load_ring : List ℕ → List ℕ
load_ring bytes = showing_part (record_answer bytes) (ring_in bytes)

-- One view from the other

-- the ring, from K and the list
abbrev pub ring_from_list : ℕ → List ℕ → List ℕ
ring_from_list K l = ring_of (take K l)

-- the latencies of the starts below i, in front of those from i on: where i - 1 is a start, its latency is the interval to the next start
unfoldable pub intervals_below : ℕ → (ℕ → Bool) → ℕ → List ℕ → List ℕ
intervals_below zero start next latencies = latencies
intervals_below (suc i) start next latencies =
    intervals_below i start (cond (start i) i next) (cond (start i) ((next - i) ∷ latencies) latencies)

-- the list, from S and the ring: the intervals between the bits of 0 below S, the last up to S
unfoldable pub list_from_ring : ℕ → List ℕ → List ℕ
list_from_ring S ring = intervals_below S (λ i. not (ring_bit ring i)) S []
