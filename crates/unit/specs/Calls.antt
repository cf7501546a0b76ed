-- What each call answers, and the unit that it leaves.
use Rattle.std.specs.Prelude.{ℕ, ◌+◌, ◌-◌, ◌/◌, ◌%◌, ◌^◌, Bool, cond, ltb, set, replicate, Ok, Err}
use Rattle.words.specs.Bits.{set_bit, clear_bit}
use Rattle.words.specs.Below.{word_below, list_below}
use Rattle.unit.specs.declared.Plan.{Plan}
use Rattle.unit.specs.declared.FunctionUnit.{FunctionUnit}
use Rattle.unit.specs.declared.Outcome.{Outcome}
use Rattle.unit.specs.declared.Refusal.{Refusal}
use Rattle.unit.specs.declared.Refusal.TheVariants.{NotSound, NoSuchTag, NoSuchSegment, NoSuchColumn}
use Rattle.unit.specs.Answers.{Answer}
use Rattle.unit.specs.Table.{Table}
use Rattle.unit.specs.Unit.{inside, place, word_at, good_counts, sound_of}

-- Refusals: each test in turn, so that the lowest number that applies is given

abbrev pub check : Bool → Refusal → Answer → Answer
check ok why next = cond ok next (Err why)

-- further tests, where those before passed
abbrev pub and_then : Answer → Answer → Answer
and_then (Ok _) next = next
and_then (Err why) next = Err why

-- one more test
abbrev pub tested_by : Answer → Bool → Refusal → Answer
tested_by answer holds why = and_then answer (check holds why (Ok tt))

-- what every question about one function tries first
unfoldable pub tag_answer : FunctionUnit → ℕ → Answer
tag_answer u q =
    check (sound_of u) NotSound
    (check (inside q u.functions) NoSuchTag (Ok tt))

unfoldable pub spot_answer : FunctionUnit → ℕ → ℕ → ℕ → Answer
spot_answer u q s c =
    check (sound_of u) NotSound
    (check (inside q u.functions) NoSuchTag
    (check (inside s u.segments) NoSuchSegment
    (check (inside c u.columns) NoSuchColumn (Ok tt))))

-- a column's word for a function: each of its bits is one of the unit's segments
unfoldable pub column_answer : FunctionUnit → ℕ → ℕ → ℕ → Answer
column_answer u q c w =
    and_then (tag_answer u q)
    (check (ltb w (2 ^ u.segments)) NoSuchSegment
    (check (inside c u.columns) NoSuchColumn (Ok tt)))

-- Units

-- no plan: tag, K, S and all 256 bytes are 0
unfoldable pub no_plan : Plan
no_plan = record { tag = 0; count = 0; sum = 0; latencies = replicate 256 0 }

-- the unit without marks or plan
abbrev pub blank : ℕ → ℕ → ℕ → FunctionUnit
blank f s c = record { functions = f; segments = s; columns = c; marks = replicate 128 0; plan = no_plan }

-- the unit of the three counts with the marks of a table, without plan (`unit_of_table`, proofs/TableLaws.antt)
unfoldable pub unit_of : ℕ → ℕ → ℕ → Table → FunctionUnit
unit_of f s c T = record {
  functions = f;
  segments = s;
  columns = c;
  marks = list_below 128 (λ i. word_below 16 (λ r. T (i / 32 + 1) (r + 1) (i % 32 + 1)));
  plan = no_plan;
}

-- the unit with another word for a tag in a column, and without plan
abbrev pub with_word : FunctionUnit → ℕ → ℕ → ℕ → FunctionUnit
with_word u q c w = record {
  functions = u.functions;
  segments = u.segments;
  columns = u.columns;
  marks = set u.marks (place q c) w;
  plan = no_plan;
}

-- an accepted call leaves the new unit, a refused one the old
abbrev pub outcome : Answer → FunctionUnit → FunctionUnit → Outcome
outcome (Ok _) old new = record { answer = (Ok tt); unit = new }
outcome (Err why) old new = record { answer = Err why; unit = old }

-- an accepted call hands out the new value, a refused one leaves what was there
abbrev pub handed : {A : Type 0} → Answer → A → A → A
handed (Ok _) new old = new
handed (Err why) new old = old

-- The calls

unfoldable pub fresh_of : ℕ → ℕ → ℕ → Outcome
fresh_of f s c = record { answer = check (good_counts f s c) NotSound (Ok tt); unit = blank f s c }

unfoldable pub mark_of : FunctionUnit → ℕ → ℕ → ℕ → Outcome
mark_of u q s c = outcome (spot_answer u q s c) u (with_word u q c (set_bit (word_at u q c) (s - 1)))

unfoldable pub unmark_of : FunctionUnit → ℕ → ℕ → ℕ → Outcome
unmark_of u q s c = outcome (spot_answer u q s c) u (with_word u q c (clear_bit (word_at u q c) (s - 1)))

-- all the marks of a function in one column, bit s - 1 for segment s
unfoldable pub column_of : FunctionUnit → ℕ → ℕ → ℕ → Outcome
column_of u q c w = outcome (column_answer u q c w) u (with_word u q c w)
