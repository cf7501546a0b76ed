-- Each waiting task starts in its turn, in the time unit that the bank and the records ahead of it give, whatever arrives later.
-- The argument: the line of records only loses its first and gains at its end. A time unit either starts the first, and the others are due in that
-- many units from the bank after this start, or passes as a tick, and all are due one unit later. Assumes nothing.
use Rattle.std.proofs.Common.{Ok}
use Prim.Native.Nat.{ℕ, zero, suc, ◌+◌, ◌*◌, ◌≤◌, ◌<◌}
use mathlib.Core.Path.{◌≡◌, refl, ap, ◌∙◌, sym, subst}
use mathlib.Core.Bool.{true, false}
use mathlib.Core.Logic.{◌⊎◌, inl, inr}
use mathlib.Core.List.{List, [], ◌∷◌, ◌++◌}
use native.Mathlib.Decide.{dec_le}
use native.Mathlib.Omega.{arith}
use lib.ListN.{length, get_or, take, length-append, length-take, get_or-append, get_or-eq_default}
use lib.Seq.{take-append-le, get_or-set_same, get_or-take, take-take}
use Rattle.words.proofs.Tests.{by_test}
use Rattle.unit.specs.declared.FunctionUnit.{FunctionUnit}
use Rattle.unit.specs.Unit.{marked, sound_of}
use Rattle.collision.specs.Vector.{largest_column}
use Rattle.controller.specs.declared.Bank.{Bank}
use Rattle.controller.specs.Bank.{started, granted}
use Rattle.controller.proofs.TickLaws.{empty_below, step_below}
use Rattle.queue.specs.declared.Waiting.{Waiting}
use Rattle.queue.specs.Passed.{Passed}
use Rattle.queue.specs.Line.{no_record, tags_inside}
use Rattle.queue.proofs.LineLaws.{tags_take}
use Rattle.queue.specs.Calls.{room, passed_of}
use Rattle.queue_claims.specs.Runs.{Port, Call, Action, Start, no_start, after, done, done_all, empty_port, units_in, start_in, starts}
use Rattle.queue_claims.specs.Runs.Call.{arrival, unit}
use Rattle.queue_claims.specs.Runs.Action.{event, call}
use Rattle.queue_claims.specs.Claims.{due_unit, due_at, InTurn, WaitsInTurn, StartsInTurn, units_alone, Unaltered}
use Rattle.queue_claims.proofs.DelayLaws.{Low, due_none, due_some, due_most, due_granted, due_tick}
use Rattle.queue.proofs.AcceptedLaws.{arrival_accepted}
use Rattle.queue_claims.proofs.Steady.{held}
use Rattle.queue_claims.proofs.PortLaws.{Ready, ready_count, ready_arrival, arrival_port, arrival_bank, unit_waits, unit_starts, arrival_low, unit_low}

-- of the starts l that follow when n time units have passed, record j of a line is number j, if so many units pass as it is due in; else fewer are there
pub record Timely (task : Waiting) (due n j units : ℕ) (l : List Start) : Type 0 where
  pub there : due ≤ units → j < length l
  pub begins : due ≤ units → get_or l j no_start ≡ record { task = task; unit = n + due }
  pub waits : units < due → length l ≤ j

-- a time unit without a start
timely_tick : {task : Waiting} {due n j units : ℕ} {l : List Start} → Timely task due (n + 1) j units l → Timely task (due + 1) n j (units + 1) l
timely_tick {task} {due} {n} {j} {units} {l} t =
    let e : n + 1 + due ≡ n + (due + 1) = omega arith in
    record {
      there = λ h. t.there (omega arith);
      begins = λ h. t.begins (omega arith) ∙ ap (λ (k : ℕ). record { task = task; unit = k }) e;
      waits = λ h. t.waits (omega arith);
    }

-- a time unit that starts the record itself
timely_first : (task : Waiting) (n units : ℕ) (l : List Start) → Timely task 1 n 0 (units + 1) (record { task = task; unit = n + 1 } ∷ l)
timely_first task n units l = record {
  there = λ h. omega arith;
  begins = λ h. refl;
  waits = λ h. absurd (omega arith);
}

-- or one that stands ahead of it
timely_behind : {task : Waiting} {due n j units : ℕ} {l : List Start} (s : Start) → Timely task due (n + 1) j units l
    → Timely task (due + 1) n (suc j) (units + 1) (s ∷ l)
timely_behind {task} {due} {n} {j} {units} {l} s t =
    let r = timely_tick t in
    record {
      there = λ h. omega (arith, r.there h);
      begins = λ h. r.begins h;
      waits = λ h. omega (arith, r.waits h);
    }

-- every record of a line is timely, whatever the calls
abbrev pub AllTimely : FunctionUnit → List Call → Type 0
AllTimely u calls =
    (p : Port) (line : List Waiting) (n j : ℕ) → Ready u p line → j < length line
    → Timely (get_or line j no_record) (due_unit u p.bank (take (suc j) line)) n j (units_in calls) (starts u p n calls)

module _ (u : FunctionUnit) (sound : sound_of u ≡ true) where
  timely_arrival : (w : Waiting) (calls : List Call) → AllTimely u calls → AllTimely u (arrival w ∷ calls)
  unfolding starts units_in
  timely_arrival w calls all p line n j r h = go (ready_arrival u p line w r)
    where
      go : Ready u (after u p (arrival w)) line ⊎ Ready u (after u p (arrival w)) (line ++ w ∷ [])
          → Timely (get_or line j no_record) (due_unit u p.bank (take (suc j) line)) n j (units_in calls) (starts u (after u p (arrival w)) n calls)
      go (inl s) =
          subst (λ (b : Bank). Timely (get_or line j no_record) (due_unit u b (take (suc j) line)) n j (units_in calls) (starts u (after u p (arrival w)) n calls))
          (arrival_bank u p w) (all (after u p (arrival w)) line n j s h)
      go (inr s) =
          let t = all (after u p (arrival w)) (line ++ w ∷ []) n j s (omega (arith, length-append line (w ∷ []))) in
          let x = get_or-append line (w ∷ []) no_record j h in
          let y = take-append-le (suc j) line (w ∷ []) h in
          subst (λ (b : Bank). Timely (get_or line j no_record) (due_unit u b (take (suc j) line)) n j (units_in calls) (starts u (after u p (arrival w)) n calls))
          (arrival_bank u p w)
          (subst (λ (l : List Waiting). Timely (get_or line j no_record) (due_unit u (after u p (arrival w)).bank l) n j (units_in calls) (starts u (after u p (arrival w)) n calls)) y
          (subst (λ (v : Waiting). Timely v (due_unit u (after u p (arrival w)).bank (take (suc j) (line ++ w ∷ []))) n j (units_in calls) (starts u (after u p (arrival w)) n calls)) x t))

  -- what a time unit makes of the first record and of those behind it
  module _ (calls : List Call) (all : AllTimely u calls) (p : Port) (w : Waiting) (line : List Waiting) (n : ℕ) (r : Ready u p (w ∷ line)) where
    abbrev rest : List Start
    rest = starts u (after u p unit) (n + 1) calls

    abbrev first : Start
    first = record { task = w; unit = n + 1 }

    first_or_behind : (j : ℕ) → j < length (w ∷ line) → Ready u (after u p unit) line → (after u p unit).bank ≡ started u w.tag p.bank
        → Timely (get_or (w ∷ line) j no_record) (due_unit u (started u w.tag p.bank) (take j line) + 1) n j (units_in calls + 1) (first ∷ rest)
    first_or_behind zero h s e =
        subst (λ (k : ℕ). Timely w k n 0 (units_in calls + 1) (first ∷ rest)) (due_none u (started u w.tag p.bank)) (timely_first w n (units_in calls) rest)
    first_or_behind (suc j) h s e =
        timely_behind first
        (subst (λ (b : Bank). Timely (get_or line j no_record) (due_unit u b (take (suc j) line)) (n + 1) j (units_in calls) rest) e
        (all (after u p unit) line (n + 1) j s (omega arith)))

    timely_granted : (j : ℕ) → j < length (w ∷ line) → granted p.bank w.tag ≡ true
        → Timely (get_or (w ∷ line) j no_record) (due_unit u p.bank (take (suc j) (w ∷ line))) n j (units_in calls + 1)
        (start_in (passed_of room u p.bank p.list p.count) (n + 1) ++ rest)
    timely_granted j h g =
        let d = unit_starts u sound p w line r g in
        subst (λ (a : Passed). Timely (get_or (w ∷ line) j no_record) (due_unit u p.bank (take (suc j) (w ∷ line))) n j (units_in calls + 1) (start_in a (n + 1) ++ rest))
        (sym d.passed)
        (subst (λ (k : ℕ). Timely (get_or (w ∷ line) j no_record) k n j (units_in calls + 1) (first ∷ rest))
        (sym (due_granted u p.bank w (take j line) g))
        (first_or_behind j h d.ready d.bank))

    timely_held : (j : ℕ) → j < length (w ∷ line) → granted p.bank w.tag ≡ false
        → Timely (get_or (w ∷ line) j no_record) (due_unit u p.bank (take (suc j) (w ∷ line))) n j (units_in calls + 1)
        (start_in (passed_of room u p.bank p.list p.count) (n + 1) ++ rest)
    timely_held j h g =
        let d = unit_waits u sound p w line r g in
        subst (λ (a : Passed). Timely (get_or (w ∷ line) j no_record) (due_unit u p.bank (take (suc j) (w ∷ line))) n j (units_in calls + 1) (start_in a (n + 1) ++ rest))
        (sym d.passed)
        (subst (λ (k : ℕ). Timely (get_or (w ∷ line) j no_record) k n j (units_in calls + 1) rest)
        (sym (due_tick u p.bank w (take j line) r.low g))
        (timely_tick
        (subst (λ (b : Bank). Timely (get_or (w ∷ line) j no_record) (due_unit u b (take (suc j) (w ∷ line))) (n + 1) j (units_in calls) rest) d.bank
        (all (after u p unit) (w ∷ line) (n + 1) j d.ready h))))

  timely_unit : (calls : List Call) → AllTimely u calls → AllTimely u (unit ∷ calls)
  unfolding starts units_in
  timely_unit calls all p [] n j r h = absurd (omega arith)
  timely_unit calls all p (w ∷ line) n j r h =
      by_test (granted p.bank w.tag) (timely_granted calls all p w line n r j h) (timely_held calls all p w line n r j h)

  timely_none : AllTimely u []
  unfolding starts units_in
  timely_none p line n j r h = record {
    there = λ l. absurd (omega (arith, due_some u p.bank line j h));
    begins = λ l. absurd (omega (arith, due_some u p.bank line j h));
    waits = λ l. omega arith;
  }

  pub timely : (calls : List Call) → AllTimely u calls
  timely [] = timely_none
  timely (arrival w ∷ calls) = timely_arrival w calls (timely calls)
  timely (unit ∷ calls) = timely_unit calls (timely calls)

  -- every action keeps the registers low

  low_done : (p : Port) (d : Action) → Low u p.bank → Low u (done u p d).bank
  unfolding done
  low_done p (event e) low = step_below u p.bank e sound low
  low_done p (call (arrival w)) low = arrival_low u p w low
  low_done p (call unit) low = unit_low u sound p low

  pub low_all : (actions : List Action) (p : Port) → Low u p.bank → Low u (done_all u p actions).bank
  unfolding done_all
  low_all [] p low = low
  low_all (d ∷ actions) p low = low_all actions (done u p d) (low_done p d low)

  -- at a port that is ready, the record with k ahead of it
  turn : (p : Port) (k : ℕ) → Ready u p (take p.count p.list) → k < p.count → (calls : List Call) → InTurn u p k (get_or p.list k no_record) calls
  turn p k r h calls =
      let line : List Waiting = take p.count p.list in
      let n : length line ≡ p.count = ready_count r in
      let t = timely calls p line 0 k r (omega arith) in
      let one : suc k ≡ k + 1 = omega arith in
      let x : take (suc k) line ≡ take (k + 1) p.list = take-take (suc k) p.count p.list h ∙ ap (λ m. take m p.list) one in
      let y : get_or line k no_record ≡ get_or p.list k no_record = get_or-take p.count p.list k no_record h in
      let m : length (take (k + 1) p.list) ≡ k + 1 = omega (arith, length-take (k + 1) p.list, r.long, r.few) in
      let tags : tags_inside u.functions (take (k + 1) p.list) ≡ true =
      subst (λ (l : List Waiting). tags_inside u.functions l ≡ true) x (tags_take u.functions (suc k) line r.tags) in
      let due : ℕ = due_at u p k in
      let s : Timely (get_or p.list k no_record) due 0 k (units_in calls) (starts u p 0 calls) =
      subst (λ (l : List Waiting). Timely (get_or p.list k no_record) (due_unit u p.bank l) 0 k (units_in calls) (starts u p 0 calls)) x
      (subst (λ (v : Waiting). Timely v (due_unit u p.bank (take (suc k) line)) 0 k (units_in calls) (starts u p 0 calls)) y t) in
      let z : 0 + due ≡ due = omega arith in
      record {
        within = subst (λ (j : ℕ). due ≤ j * (largest_column (marked u) + 1)) m (due_most u sound p.bank (take (k + 1) p.list) r.low tags);
        there = s.there;
        begins = λ l. s.begins l ∙ ap (λ (j : ℕ). record { task = get_or p.list k no_record; unit = j }) z;
        waits = s.waits;
      }

-- The claims

pub waits_in_turn : WaitsInTurn
waits_in_turn u list actions k h calls =
    let p = done_all u (empty_port list) actions in
    let d = held u list actions in
    let some : 1 ≤ p.count = omega arith in
    let sound = d.sound some in
    turn u sound p k
    (record {
      low = low_all u sound actions (empty_port list) (empty_below (largest_column (marked u)));
      long = d.long some;
      few = d.few;
      waits = refl;
      tags = d.tags;
    })
    h calls

-- an arrival is one more action
all_more : (u : FunctionUnit) (actions : List Action) (p : Port) (d : Action) → done_all u p (actions ++ d ∷ []) ≡ done u (done_all u p actions) d
unfolding done_all
all_more u [] p d = refl
all_more u (x ∷ actions) p d = all_more u actions (done u p x) d

arrived : (u : FunctionUnit) (list : List Waiting) (actions : List Action) (w : Waiting)
    → done_all u (empty_port list) (actions ++ call (arrival w) ∷ []) ≡ after u (done_all u (empty_port list) actions) (arrival w)
unfolding done
arrived u list actions w = all_more u actions (empty_port list) (call (arrival w))

pub starts_in_turn : StartsInTurn
starts_in_turn u list actions w e calls =
    let p = done_all u (empty_port list) actions in
    let a = arrival_accepted room u p.list p.count w e in
    let q : Port = after u p (arrival w) in
    let j = arrival_port u p w (Ok tt) e in
    let count : q.count ≡ p.count + 1 = ap (λ (x : Port). x.count) j in
    let last : get_or q.list p.count no_record ≡ w =
    ap (λ (x : Port). get_or x.list p.count no_record) j ∙ get_or-set_same p.list p.count w no_record (omega (arith, a.few, a.long)) in
    let there : p.count < (done_all u (empty_port list) (actions ++ call (arrival w) ∷ [])).count =
    subst (λ (x : Port). p.count < x.count) (sym (arrived u list actions w)) (omega (arith, count)) in
    let t = waits_in_turn u list (actions ++ call (arrival w) ∷ []) p.count there calls in
    subst (λ (v : Waiting). InTurn u q p.count v calls) last
    (subst (λ (x : Port). InTurn u x p.count (get_or x.list p.count no_record) calls) (arrived u list actions w) t)

-- Without the later arrivals

units_alone_lem : (calls : List Call) → units_in (units_alone calls) ≡ units_in calls
unfolding units_in units_alone
units_alone_lem [] = refl
units_alone_lem (arrival w ∷ calls) = units_alone_lem calls
units_alone_lem (unit ∷ calls) = ap (λ n. n + 1) (units_alone_lem calls)

same_start : (u : FunctionUnit) (p : Port) (k : ℕ) (w : Waiting) (calls : List Call) → InTurn u p k w calls → InTurn u p k w (units_alone calls)
    → get_or (starts u p 0 calls) k no_start ≡ get_or (starts u p 0 (units_alone calls)) k no_start
same_start u p k w calls all alone = go (dec_le (due_at u p k) (units_in calls))
  where
    go : Dec (due_at u p k ≤ units_in calls) → get_or (starts u p 0 calls) k no_start ≡ get_or (starts u p 0 (units_alone calls)) k no_start
    go (yes h) = all.begins h ∙ sym (alone.begins (omega (arith, units_alone_lem calls)))
    go (no h) =
        get_or-eq_default (starts u p 0 calls) no_start (all.waits (omega arith))
        ∙ sym (get_or-eq_default (starts u p 0 (units_alone calls)) no_start (alone.waits (omega (arith, units_alone_lem calls))))

pub unaltered : Unaltered
unaltered u list actions k h calls =
    let p = done_all u (empty_port list) actions in
    same_start u p k (get_or p.list k no_record) calls (waits_in_turn u list actions k h calls) (waits_in_turn u list actions k h (units_alone calls))
