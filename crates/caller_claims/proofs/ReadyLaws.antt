-- A shared port at which every time unit is accepted, and what each call leaves of it. Assumes nothing.
use Rattle.std.proofs.Common.{Ok, Err, Some, None}
use Prim.Native.Nat.{ℕ, zero, suc, ◌+◌, ◌-◌, ◌*◌, ◌≤◌}
use mathlib.Core.Path.{◌≡◌, refl, ap, ◌∙◌, sym, subst}
use mathlib.Core.Bool.{true, false, cond, not}
use mathlib.Core.Logic.{◌⊎◌, inl, inr}
use mathlib.Core.List.{List, [], ◌∷◌, ◌++◌}
use native.Mathlib.Omega.{arith}
use lib.Dec.{eqb}
use lib.ListN.{length, take, length-take}
use borrow.Author.Tests.{le-leb, eqb-true, eqb-false, eq-eqb, ne_eqb}
use Rattle.words.proofs.Tests.{nowhere, by_test, and_left, and_right, and_true}
use Rattle.unit.specs.declared.FunctionUnit.{FunctionUnit}
use Rattle.unit.specs.Answers.{Answer}
use Rattle.unit.specs.Unit.{inside, marked, sound_of}
use Rattle.unit.proofs.Laws.{within}
use Rattle.collision.specs.Vector.{largest_column}
use Rattle.controller.specs.Bank.{shifted, granted}
use Rattle.controller.proofs.TickLaws.{tick_shifts, shifted_below, step_below, empty_below}
use Rattle.queue.specs.declared.Waiting.{Waiting}
use Rattle.queue.specs.Passed.{Passed}
use Rattle.queue.specs.Line.{tags_inside}
use Rattle.queue.specs.Calls.{oldest, passed_then}
use Rattle.queue.proofs.LineLaws.{tags_first}
use Rattle.queue_claims.proofs.DelayLaws.{Low, low_started}
use Rattle.queue_claims.proofs.PortLaws.{bank_start}
use Rattle.callers.specs.Turn.{next_turn}
use Rattle.callers.specs.Queues.{room, queue_of, count_of, has_work}
use Rattle.callers.specs.Calls.{one_of, unit_at, passed_at, counts_then}
use Rattle.callers.proofs.RoundLaws.{next_inside}
use Rattle.callers.proofs.PartLaws.{queue_length}
use Rattle.caller_claims.specs.Runs.{Port, Action, line_of, after, arrived_at, done, done_all, empty_port, brought}
use Rattle.caller_claims.specs.Runs.Call.{arrival, unit}
use Rattle.caller_claims.specs.Runs.Action.{event, call}
use Rattle.caller_claims.proofs.PartLaws.{line_same, line_other}
use Rattle.caller_claims.specs.Tasks.{caller_in, passed_in}
use Rattle.caller_claims.proofs.PortLaws.{caller_inside, arrived_by, arrival_port, arrival_refused, unit_port, unit_idle}
use Rattle.caller_claims.proofs.HeldLaws.{Held, held, held_empty, length_after, held_after, arrival_whole, joined_length, joined_line, start_whole, left_length}
use Rattle.caller_claims.proofs.Steady.{units}

pub record Ready (u : FunctionUnit) (C : ℕ) (p : Port) : Type 0 where
  pub low : Low u p.bank
  pub callers : inside C 4 ≡ true
  pub turn : inside p.turn C ≡ true
  pub long : room * C ≤ length p.list
  pub held : Held u C p.list p.counts

-- A caller has work exactly where its line has a record

line_length_lem : (u : FunctionUnit) (C : ℕ) (p : Port) (i : ℕ) → Ready u C p → inside i C ≡ true → length (line_of p i) ≡ count_of p.counts i
line_length_lem u C p i r ii =
    let q = queue_length p.list i (omega (arith, r.long, (within i C ii).least, (within i C ii).most)) in
    length-take (count_of p.counts i) (queue_of p.list i) ∙ omega (arith, r.held.few i ii)

pub record SomeWait (l : List Waiting) : Type 0 where
  pub head : Waiting
  pub rest : List Waiting
  pub is : l ≡ head ∷ rest

pub work_some : (u : FunctionUnit) (C : ℕ) (p : Port) (i : ℕ) → Ready u C p → inside i C ≡ true → has_work p.counts i ≡ true → SomeWait (line_of p i)
work_some u C p i r ii w = go (line_of p i) refl
  where
    go : (l : List Waiting) → line_of p i ≡ l → SomeWait l
    go [] e =
        let z : count_of p.counts i ≡ 0 = sym (line_length_lem u C p i r ii) ∙ ap length e in
        nowhere (sym (ap not (eq-eqb (count_of p.counts i) 0 z)) ∙ w)
    go (x ∷ l) e = record { head = x; rest = l; is = refl }

some_count : (list : List Waiting) (count : ℕ) (x : Waiting) (l : List Waiting) → take count list ≡ x ∷ l → 1 ≤ count
some_count list zero x l e = let z : ◌≡◌ {A = ℕ} 0 1 = cc in absurd (omega arith)
some_count list (suc count) x l e = omega arith

pub some_work : (p : Port) (i : ℕ) (x : Waiting) (l : List Waiting) → line_of p i ≡ x ∷ l → has_work p.counts i ≡ true
some_work p i x l e =
    let n = some_count (queue_of p.list i) (count_of p.counts i) x l e in
    ap not (ne_eqb (count_of p.counts i) 0 (λ z. omega arith))

-- Arrivals

module _ (u : FunctionUnit) (C : ℕ) (p : Port) (k : ℕ) (v : Waiting) where
  abbrev p' : Port
  p' = after u C p (arrival k v)

  -- the line of each caller stays, or has the record at its end
  pub line_grown : Held u C p.list p.counts → (i : ℕ) → inside i C ≡ true → (line_of p' i ≡ line_of p i) ⊎ (line_of p' i ≡ line_of p i ++ v ∷ [])
  line_grown h i ii = go (arrived_at u C p k v) refl
    where
      go : (a : Answer) → arrived_at u C p k v ≡ a → (line_of p' i ≡ line_of p i) ⊎ (line_of p' i ≡ line_of p i ++ v ∷ [])
      go (Err why) e = inl (ap (λ (q : Port). line_of q i) (arrival_refused u C p k v why e))
      go (Ok _) e = rw (arrival_port u C p k v (Ok tt) e) (by_test (eqb i k) same other)
        where
          same : eqb i k ≡ true → (line_of (arrived_by p k v (Ok tt)) i ≡ line_of p i) ⊎ (line_of (arrived_by p k v (Ok tt)) i ≡ line_of p i ++ v ∷ [])
          same y =
              let o = arrival_whole u C p k v h e in
              let l = line_same p.list p.counts k _ o.all (joined_length u C p k v h e) (count_of p.counts k + 1) o.counted in
              rw (eqb-true i k y) (inr (l ∙ joined_line u C p k v h e))

          other : eqb i k ≡ false → (line_of (arrived_by p k v (Ok tt)) i ≡ line_of p i) ⊎ (line_of (arrived_by p k v (Ok tt)) i ≡ line_of p i ++ v ∷ [])
          other y =
              let o = arrival_whole u C p k v h e in
              inl (line_other p.list p.counts k _ o.all (joined_length u C p k v h e) (count_of p.counts k + 1) i
              (within k C o.here).least (within i C ii).least (eqb-false i k y))

  pub arrival_bank : p'.bank ≡ p.bank
  unfolding after
  arrival_bank = refl

  pub arrival_turn : p'.turn ≡ p.turn
  unfolding after
  arrival_turn = refl

  pub ready_arrival : Ready u C p → Ready u C p'
  ready_arrival r = record {
    low = subst (Low u) (sym arrival_bank) r.low;
    callers = r.callers;
    turn = subst (λ (t : ℕ). inside t C ≡ true) (sym arrival_turn) r.turn;
    long = omega (arith, r.long, length_after u C p r.held (arrival k v));
    held = held_after u C p (arrival k v) r.held;
  }

-- Time units

module _ (u : FunctionUnit) (sound : sound_of u ≡ true) (C : ℕ) (p : Port) (r : Ready u C p) where
  abbrev c : ℕ
  c = caller_in C p

  pub caller_here : inside c C ≡ true
  caller_here = caller_inside C p r.turn

  unit_done : unit_at u C p.turn p.list p.counts ≡ Ok tt
  unit_done =
      units u C p.list p.counts r.held p.turn
      ∙ simp (sound, and_true r.callers r.turn, le-leb (room * C) (length p.list) r.long)

  passed_oldest : passed_in u C p ≡ oldest p.bank (line_of p c)
  unfolding passed_at
  passed_oldest = ap (λ (a : Answer). passed_then a (oldest p.bank (line_of p c))) unit_done

  -- a unit in which none was started
  pub record Idles : Type 0 where
    pub passed : passed_in u C p ≡ Ok None
    pub bank : (after u C p unit).bank ≡ shifted p.bank
    pub turn : (after u C p unit).turn ≡ c
    pub lines : (i : ℕ) → line_of (after u C p unit) i ≡ line_of p i
    pub ready : Ready u C (after u C p unit)

  unit_idles : passed_in u C p ≡ Ok None → Idles
  unit_idles e =
      let q = unit_idle u C p e in
      let t = tick_shifts u sound p.bank in
      record {
        passed = e;
        bank = ap (λ (x : Port). x.bank) q ∙ t;
        turn = ap (λ (x : Port). x.turn) q;
        lines = λ i. ap (λ (x : Port). line_of x i) q;
        ready = rw q
            (record {
              low = subst (Low u) (sym t) (shifted_below (largest_column (marked u)) p.bank r.low);
              callers = r.callers;
              turn = caller_here;
              long = r.long;
              held = r.held;
            });
      }

  -- a unit in which the oldest record of the caller whose turn it is was started, or waits on

  module _ (x : Waiting) (line : List Waiting) (e : line_of p c ≡ x ∷ line) where
    pub head_tag : inside x.tag u.functions ≡ true
    head_tag = tags_first u x line (ap (tags_inside u.functions) (sym e) ∙ r.held.tags c caller_here)

    pub held_idles : granted p.bank x.tag ≡ false → Idles
    unfolding oldest
    held_idles g = unit_idles (passed_oldest ∙ ap (oldest p.bank) e ∙ ap (λ ok. cond ok (Ok (Some x)) (Ok None)) g)

    pub record StartsFirst : Type 0 where
      pub passed : passed_in u C p ≡ Ok (Some x)
      pub turn : (after u C p unit).turn ≡ next_turn C (has_work (counts_then (Ok (Some x)) p.counts c)) c
      pub lines : (i : ℕ) → inside i C ≡ true → (i ≡ c → ⊥) → line_of (after u C p unit) i ≡ line_of p i
      pub ready : Ready u C (after u C p unit)

    unit_starts : passed_in u C p ≡ Ok (Some x) → granted p.bank x.tag ≡ true → StartsFirst
    unit_starts a g =
        let q = unit_port u C p (Ok (Some x)) a in
        let s = bank_start u p.bank x sound head_tag g in
        let o = start_whole u C p x r.held a in
        let l = left_length u C p x r.held a in
        record {
          passed = a;
          turn = ap (λ (y : Port). y.turn) q;
          lines = λ i ii n. ap (λ (y : Port). line_of y i) q
              ∙ line_other p.list p.counts c _ o.all l (count_of p.counts c - 1) i (within c C caller_here).least (within i C ii).least n;
          ready = record {
            low = subst (Low u) (sym (ap (λ (y : Port). y.bank) q ∙ s)) (low_started u x.tag p.bank sound head_tag r.low);
            callers = r.callers;
            turn = subst (λ (t : ℕ). inside t C ≡ true) (sym (ap (λ (y : Port). y.turn) q))
                (next_inside C (has_work (counts_then (Ok (Some x)) p.counts c)) C c c caller_here caller_here);
            long = omega (arith, r.long, length_after u C p r.held unit);
            held = held_after u C p unit r.held;
          };
        }

    pub granted_starts : granted p.bank x.tag ≡ true → StartsFirst
    unfolding oldest
    granted_starts g = unit_starts (passed_oldest ∙ ap (oldest p.bank) e ∙ ap (λ ok. cond ok (Ok (Some x)) (Ok None)) g) g

  -- every time unit keeps the port ready
  ready_unit : Ready u C (after u C p unit)
  unfolding oldest
  ready_unit = go (line_of p c) refl
    where
      go : (l : List Waiting) → line_of p c ≡ l → Ready u C (after u C p unit)
      go [] e = (unit_idles (passed_oldest ∙ ap (oldest p.bank) e)).ready
      go (x ∷ line) e = by_test (granted p.bank x.tag) (λ g. (granted_starts x line e g).ready) (λ g. (held_idles x line e g).ready)

-- From empty

ready_empty : (u : FunctionUnit) (C turn : ℕ) → one_of C turn ≡ true → (list : List Waiting) → room * C ≤ length list → Ready u C (empty_port turn list)
ready_empty u C turn o list long = record {
  low = empty_below (largest_column (marked u));
  callers = and_left (inside C 4) (inside turn C) o;
  turn = and_right (inside C 4) (inside turn C) o;
  long = long;
  held = held_empty u C list;
}

module _ (u : FunctionUnit) (sound : sound_of u ≡ true) (C : ℕ) where
  ready_done : (p : Port) (d : Action) → Ready u C p → Ready u C (done u C p d)
  unfolding done
  ready_done p (event e) r = record { low = step_below u p.bank e sound r.low; callers = r.callers; turn = r.turn; long = r.long; held = r.held }
  ready_done p (call (arrival k v)) r = ready_arrival u C p k v r
  ready_done p (call unit) r = ready_unit u sound C p r

  ready_all : (actions : List Action) (p : Port) → Ready u C p → Ready u C (done_all u C p actions)
  unfolding done_all
  ready_all [] p r = r
  ready_all (d ∷ actions) p r = ready_all actions (done u C p d) (ready_done p d r)

  pub ready : (turn : ℕ) → one_of C turn ≡ true → (list : List Waiting) → room * C ≤ length list → (actions : List Action)
      → Ready u C (brought u C turn list actions)
  ready turn o list long actions = ready_all actions (empty_port turn list) (ready_empty u C turn o list long)

-- where a record waits the unit is sound
pub waits_sound : (u : FunctionUnit) (C turn : ℕ) (list : List Waiting) (actions : List Action) (i : ℕ) (w : Waiting) (line : List Waiting)
    → line_of (brought u C turn list actions) i ≡ w ∷ line → sound_of u ≡ true
waits_sound u C turn list actions i w line e =
    let p = brought u C turn list actions in
    (held u C turn list actions).sound i (some_count (queue_of p.list i) (count_of p.counts i) w line e)
