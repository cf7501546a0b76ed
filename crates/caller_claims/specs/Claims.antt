-- Callers in turn: each caller's oldest task starts within C × (n + 1) time units, and while two callers both wait they start alternately.
use Rattle.std.specs.Prelude.{ℕ, ◌+◌, ◌*◌, ◌≤◌, ◌<◌, ◌≡◌, true, ◌||◌, ◌⊎◌, List, [], ◌∷◌, ◌++◌, eqb, leb, ltb, length, get_or, take, drop, Ok}
use Rattle.unit.specs.declared.FunctionUnit.{FunctionUnit}
use Rattle.unit.specs.declared.Refusal.TheVariants.{NotSound, NoSuchTag, ShortOutput, TooManyWait, NoSuchCaller}
use Rattle.unit.specs.Unit.{inside, marked, sound_of}
use Rattle.unit.specs.Calls.{check}
use Rattle.collision.specs.Vector.{largest_column}
use Rattle.queue.specs.declared.Waiting.{Waiting}
use Rattle.callers.specs.Queues.{room, queue_of, count_of, has_work}
use Rattle.callers.specs.Calls.{one_of, unit_at}
use Rattle.caller_claims.specs.Runs.{Port, Call, Action, Start, no_start, line_of, arrived_at, served_at, after, brought, units_in, starts, starts_of}
use Rattle.caller_claims.specs.Runs.Call.{arrival, unit}

-- Each caller's oldest task starts within C × (n + 1) time units, n being the largest column with a 1 in any matrix of the unit, or 0

-- while caller i's oldest record is w, these calls follow: where there are that many time units among them, caller i starts, first w, and in one of these units
pub record StartsSoon (u : FunctionUnit) (C : ℕ) (p : Port) (i : ℕ) (w : Waiting) (calls : List Call) : Type 0 where
  pub there : C * (largest_column (marked u) + 1) ≤ units_in calls → 0 < length (starts_of (eqb i) (starts u C p 0 calls))
  pub soon : 0 < length (starts_of (eqb i) (starts u C p 0 calls)) → (get_or (starts_of (eqb i) (starts u C p 0 calls)) 0 no_start).unit ≤ C * (largest_column (marked u) + 1)
  pub first : 0 < length (starts_of (eqb i) (starts u C p 0 calls)) → (get_or (starts_of (eqb i) (starts u C p 0 calls)) 0 no_start).task ≡ w

-- For one unchanged unit, bank, list, counts and turn brought from empty by its events and these calls, and by these calls alone from then on; the turn at the
-- beginning names a caller, and the list holds all C queues. It holds at every moment at which w is its caller's oldest, and so from the first on
-- (`starts_soon`, proofs/Soon.antt)
abbrev pub EachStartsSoon : Type 0
EachStartsSoon =
    (u : FunctionUnit) (C turn : ℕ) → one_of C turn ≡ true → (list : List Waiting) → room * C ≤ length list → (actions : List Action) (i : ℕ) → inside i C ≡ true
    → (w : Waiting) (line : List Waiting) → line_of (brought u C turn list actions) i ≡ w ∷ line
    → (calls : List Call) → StartsSoon u C (brought u C turn list actions) i w calls

-- While two callers both wait, neither starts twice without the other starting between

-- at the beginning of each time unit both wait
unfoldable pub BothWait : FunctionUnit → ℕ → Port → ℕ → ℕ → List Call → Type 0
BothWait u C p i j [] = Unit {0}
BothWait u C p i j (arrival k w ∷ calls) = BothWait u C (after u C p (arrival k w)) i j calls
BothWait u C p i j (unit ∷ calls) =
    (has_work p.counts i ≡ true) × (has_work p.counts j ≡ true) × BothWait u C (after u C p unit) i j calls

-- first a, then b, then a, and so on
abbrev pub Alternate : ℕ → ℕ → List Start → Type 0
Alternate a b [] = Unit {0}
Alternate a b (s ∷ l) = (s.caller ≡ a) × Alternate b a l

-- the starts of two callers, while both wait, are by turns; this holds from any port (`take_turns`, proofs/Turns.antt)
abbrev pub TakeTurns : Type 0
TakeTurns =
    (u : FunctionUnit) (C : ℕ) (p : Port) (i j : ℕ) → inside i C ≡ true → inside j C ≡ true → (i ≡ j → ⊥) → (calls : List Call)
    → BothWait u C p i j calls
    → Alternate i j (starts_of (λ k. eqb i k || eqb j k) (starts u C p 0 calls)) ⊎ Alternate j i (starts_of (λ k. eqb i k || eqb j k) (starts u C p 0 calls))

-- Queues beyond C are neither read nor changed

-- the port with what lies beyond caller C cut off
abbrev pub within : ℕ → Port → Port
within C p = record { bank = p.bank; turn = p.turn; list = take (room * C) p.list; counts = take C p.counts }

-- and put back behind it
abbrev pub with_beyond : ℕ → Port → Port → Port
with_beyond C before p = record {
  bank = p.bank;
  turn = p.turn;
  list = p.list ++ drop (room * C) before.list;
  counts = p.counts ++ drop C before.counts;
}

-- a call answers, and leaves within, what it would if nothing lay beyond caller C, and leaves what lies beyond as it was
pub record OnlyWithin (u : FunctionUnit) (C : ℕ) (p : Port) : Type 0 where
  pub units : served_at u C p ≡ served_at u C (within C p)
  pub arrivals : (i : ℕ) (w : Waiting) → arrived_at u C p i w ≡ arrived_at u C (within C p) i w
  pub leaves : (k : Call) → after u C p k ≡ with_beyond C p (after u C (within C p) k)

-- at any port, also a refused one (`nothing_beyond`, proofs/Beyond.antt)
abbrev pub NothingBeyond : Type 0
NothingBeyond = (u : FunctionUnit) (C : ℕ) (p : Port) → OnlyWithin u C p

-- Refusals

-- no time unit is refused but for the unit, C or the turn, and the list; no arrival but for these, for the tag offered, and where 8 wait
pub record Steady (u : FunctionUnit) (C : ℕ) (p : Port) : Type 0 where
  pub units : unit_at u C p.turn p.list p.counts
      ≡ check (sound_of u) NotSound (check (one_of C p.turn) NoSuchCaller (check (leb (room * C) (length p.list)) ShortOutput (Ok tt)))
  pub arrivals : (i : ℕ) (w : Waiting) → arrived_at u C p i w
      ≡ check (sound_of u) NotSound
      (check (one_of C i) NoSuchCaller
      (check (leb room (length (queue_of p.list i))) ShortOutput
      (check (inside w.tag u.functions) NoSuchTag
      (check (ltb (count_of p.counts i) room) TooManyWait (Ok tt)))))

-- so it is from empty on: neither a count above 8 nor a waiting tag that is not the unit's ever comes up (`stays_steady`, proofs/Steady.antt)
abbrev pub StaysSteady : Type 0
StaysSteady = (u : FunctionUnit) (C turn : ℕ) (list : List Waiting) (actions : List Action) → Steady u C (brought u C turn list actions)
