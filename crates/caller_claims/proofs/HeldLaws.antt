-- What the queues of a shared port keep from empty on: no more wait at a caller than there is room for, their tags are the unit's, and where one waits the unit
-- is sound. Assumes nothing.
use Rattle.std.proofs.Common.{Ok, Err, Some, None}
use Prim.Native.Nat.{ℕ, ◌+◌, ◌-◌, ◌≤◌, ◌<◌}
use mathlib.Core.Path.{◌≡◌, refl, ap, ◌∙◌, sym}
use mathlib.Core.Bool.{true}
use mathlib.Core.List.{List, [], ◌∷◌, ◌++◌}
use native.Mathlib.Omega.{arith}
use native.Mathlib.Decide.{dec_lt}
use lib.Dec.{eqb}
use lib.ListN.{length, take, set, replicate, length-set, length-take, get_or-replicate, get_or-eq_default}
use borrow.Author.Tests.{eqb-true, eqb-false}
use Rattle.words.proofs.Tests.{by_test, and_left, and_right, and_true}
use Rattle.unit.specs.declared.FunctionUnit.{FunctionUnit}
use Rattle.unit.specs.Answers.{Answer}
use Rattle.unit.specs.Unit.{inside, sound_of}
use Rattle.unit.proofs.Laws.{within}
use Rattle.queue.specs.declared.Waiting.{Waiting}
use Rattle.queue.specs.Passed.{Passed}
use Rattle.queue.specs.Line.{tags_inside, forward}
use Rattle.queue.proofs.LineLaws.{tags_rest, tags_joined, set_line, forward_length, forward_line}
use Rattle.queue_claims.proofs.PassLaws.{Started, was_started}
use Rattle.callers.specs.Queues.{room, queue_of, with_queue, count_of, with_count, waiting_of}
use Rattle.callers.specs.Calls.{one_of, arrival_of, unit_at, passed_at}
use Rattle.caller_claims.specs.Runs.{Port, Call, Action, line_of, after, arrived_at, done, done_all, empty_port, brought}
use Rattle.caller_claims.specs.Runs.Call.{arrival, unit}
use Rattle.caller_claims.specs.Runs.Action.{event, call}
use Rattle.caller_claims.proofs.PartLaws.{count_same, count_other, list_length, line_same, line_other}
use Rattle.caller_claims.specs.Tasks.{caller_in, passed_in}
use Rattle.caller_claims.proofs.PortLaws.{caller_inside, arrived_by, arrival_port, arrival_refused, left_by, unit_port, unit_refused, unit_idle}
use Rattle.caller_claims.proofs.AcceptedLaws.{Arrives, arrives, Passes, passes}

-- the queues and counts of C callers
pub record Held (u : FunctionUnit) (C : ℕ) (list : List Waiting) (counts : List ℕ) : Type 0 where
  pub four : length counts ≡ 4
  pub few : (i : ℕ) → inside i C ≡ true → count_of counts i ≤ room
  pub tags : (i : ℕ) → inside i C ≡ true → tags_inside u.functions (waiting_of list counts i) ≡ true
  pub sound : (i : ℕ) → 1 ≤ count_of counts i → sound_of u ≡ true

-- A caller of 1 to 4, whose queue is all in the list
pub record Whole (C i : ℕ) (list : List Waiting) (counts : List ℕ) : Type 0 where
  pub here : inside i C ≡ true
  pub counted : i - 1 < length counts
  pub all : room ≤ length (queue_of list i)

whole : {C i : ℕ} {list : List Waiting} {counts : List ℕ} → one_of C i ≡ true → length counts ≡ 4 → room ≤ length (queue_of list i) → Whole C i list counts
whole {C} {i} {list} {counts} o four all =
    let here = and_right (inside C 4) (inside i C) o in
    record {
      here = here;
      counted = omega (arith, (within C 4 (and_left (inside C 4) (inside i C) o)).most, (within i C here).least, (within i C here).most);
      all = all;
    }

module _ (u : FunctionUnit) (C : ℕ) (list : List Waiting) (counts : List ℕ) where
  -- it may have another queue and count, and all else is as before
  held_changed : Held u C list counts → (c : ℕ) → Whole C c list counts → (q : List Waiting) → length q ≡ length (queue_of list c) → (n : ℕ) → n ≤ room
      → tags_inside u.functions (take n q) ≡ true → sound_of u ≡ true → Held u C (with_queue list c q) (with_count counts c n)
  held_changed h c o q same n m t s = record {
    four = length-set counts (c - 1) n ∙ h.four;
    few = λ i ii. by_test (eqb i c)
        (λ e. rw (eqb-true i c e, count_same counts c n o.counted) m)
        (λ e. rw (count_other counts c i n (within c C o.here).least (within i C ii).least (eqb-false i c e)) (h.few i ii));
    tags = λ i ii. by_test (eqb i c)
        (λ e. rw (eqb-true i c e, line_same list counts c q o.all same n o.counted) t)
        (λ e. rw (line_other list counts c q o.all same n i (within c C o.here).least (within i C ii).least (eqb-false i c e)) (h.tags i ii));
    sound = λ i l. s;
  }

-- An accepted arrival

module _ (u : FunctionUnit) (C : ℕ) (p : Port) (k : ℕ) (w : Waiting) (h : Held u C p.list p.counts) (e : arrived_at u C p k w ≡ Ok tt) where
  arrival_has : Arrives u C k (queue_of p.list k) (count_of p.counts k) w
  unfolding arrival_of
  arrival_has = arrives u C k (queue_of p.list k) (count_of p.counts k) w e

  pub arrival_whole : Whole C k p.list p.counts
  arrival_whole = whole arrival_has.caller h.four arrival_has.joins.long

  pub joined_length : length (set (queue_of p.list k) (count_of p.counts k) w) ≡ length (queue_of p.list k)
  joined_length = length-set (queue_of p.list k) (count_of p.counts k) w

  pub joined_line : take (count_of p.counts k + 1) (set (queue_of p.list k) (count_of p.counts k) w) ≡ line_of p k ++ w ∷ []
  joined_line = set_line (queue_of p.list k) (count_of p.counts k) w (omega (arith, arrival_has.joins.few, arrival_has.joins.long))

  held_joined : Held u C (arrived_by p k w (Ok tt)).list (arrived_by p k w (Ok tt)).counts
  held_joined =
      held_changed u C p.list p.counts h k arrival_whole _ joined_length (count_of p.counts k + 1) (omega (arith, arrival_has.joins.few))
      (ap (tags_inside u.functions) joined_line ∙ tags_joined u (line_of p k) w arrival_has.joins.tags arrival_has.joins.tag)
      arrival_has.joins.sound

-- A start

module _ (u : FunctionUnit) (C : ℕ) (p : Port) (w : Waiting) (h : Held u C p.list p.counts) (e : passed_in u C p ≡ Ok (Some w)) where
  abbrev c : ℕ
  c = caller_in C p

  start_has : Started p.bank (unit_at u C p.turn p.list p.counts) (line_of p c) w
  unfolding passed_at
  start_has = was_started p.bank (unit_at u C p.turn p.list p.counts) (line_of p c) w e

  start_passes : Passes u C p.turn p.list p.counts
  start_passes = passes u C p.turn p.list p.counts start_has.accepted

  pub start_whole : Whole C c p.list p.counts
  start_whole =
      let o = start_passes.caller in
      let i = caller_inside C p (and_right (inside C 4) (inside p.turn C) o) in
      whole (and_true (and_left (inside C 4) (inside p.turn C) o) i) h.four (start_passes.long c i)

  -- the records that wait are all in the queue
  waits_in : count_of p.counts c ≤ length (queue_of p.list c)
  waits_in = omega (arith, h.few c start_whole.here, start_whole.all)

  some_waits : 1 ≤ count_of p.counts c
  some_waits = omega (arith, length-take (count_of p.counts c) (queue_of p.list c), ap length start_has.first)

  pub left_length : length (forward (queue_of p.list c) (count_of p.counts c)) ≡ length (queue_of p.list c)
  left_length = forward_length (queue_of p.list c) (count_of p.counts c) waits_in some_waits

  left_line : take (count_of p.counts c - 1) (forward (queue_of p.list c) (count_of p.counts c)) ≡ start_has.rest
  left_line = forward_line (queue_of p.list c) (count_of p.counts c) w start_has.rest waits_in start_has.first

  start_tags : tags_inside u.functions (w ∷ start_has.rest) ≡ true
  start_tags = ap (tags_inside u.functions) (sym start_has.first) ∙ h.tags c start_whole.here

  held_left : Held u C (left_by u C p (caller_in C p) (Ok (Some w))).list (left_by u C p (caller_in C p) (Ok (Some w))).counts
  held_left =
      held_changed u C p.list p.counts h c start_whole _ left_length (count_of p.counts c - 1) (omega (arith, h.few c start_whole.here))
      (ap (tags_inside u.functions) left_line ∙ tags_rest u w start_has.rest start_tags) start_passes.sound

-- No call alters the length of the list

module _ (u : FunctionUnit) (C : ℕ) (p : Port) (h : Held u C p.list p.counts) where
  abbrev Long : Port → Type 0
  Long q = length q.list ≡ length p.list

  length_arrival : (k : ℕ) (w : Waiting) → Long (after u C p (arrival k w))
  length_arrival k w = go (arrived_at u C p k w) refl
    where
      go : (a : Answer) → arrived_at u C p k w ≡ a → Long (after u C p (arrival k w))
      go (Ok _) e = rw (arrival_port u C p k w (Ok tt) e) (list_length p.list k _ (arrival_whole u C p k w h e).all (joined_length u C p k w h e))
      go (Err why) e = rw (arrival_refused u C p k w why e)

  length_unit : Long (after u C p unit)
  length_unit = go (passed_in u C p) refl
    where
      go : (a : Passed) → passed_in u C p ≡ a → Long (after u C p unit)
      go (Ok (Some w)) e =
          rw (unit_port u C p (Ok (Some w)) e) (list_length p.list (caller_in C p) _ (start_whole u C p w h e).all (left_length u C p w h e))
      go (Ok None) e = rw (unit_idle u C p e)
      go (Err why) e = rw (unit_refused u C p why e)

  pub length_after : (k : Call) → Long (after u C p k)
  length_after (arrival k w) = length_arrival k w
  length_after unit = length_unit

-- From empty on

module _ (u : FunctionUnit) (C : ℕ) where
  abbrev Keeps : Port → Type 0
  Keeps p = Held u C p.list p.counts

  held_arrival : (p : Port) (k : ℕ) (w : Waiting) → Keeps p → Keeps (after u C p (arrival k w))
  held_arrival p k w h = go (arrived_at u C p k w) refl
    where
      go : (a : Answer) → arrived_at u C p k w ≡ a → Keeps (after u C p (arrival k w))
      go (Ok _) e = rw (arrival_port u C p k w (Ok tt) e) (held_joined u C p k w h e)
      go (Err why) e = rw (arrival_refused u C p k w why e) h

  held_unit : (p : Port) → Keeps p → Keeps (after u C p unit)
  held_unit p h = go (passed_in u C p) refl
    where
      go : (a : Passed) → passed_in u C p ≡ a → Keeps (after u C p unit)
      go (Ok (Some w)) e = rw (unit_port u C p (Ok (Some w)) e) (held_left u C p w h e)
      go (Ok None) e = rw (unit_idle u C p e) h
      go (Err why) e = rw (unit_refused u C p why e) h

  pub held_after : (p : Port) (k : Call) → Keeps p → Keeps (after u C p k)
  held_after p (arrival k w) h = held_arrival p k w h
  held_after p unit h = held_unit p h

  held_done : (p : Port) (d : Action) → Keeps p → Keeps (done u C p d)
  unfolding done
  held_done p (event e) h = h
  held_done p (call k) h = held_after p k h

  held_all : (actions : List Action) (p : Port) → Keeps p → Keeps (done_all u C p actions)
  unfolding done_all
  held_all [] p h = h
  held_all (d ∷ actions) p h = held_all actions (done u C p d) (held_done p d h)

  none_waits : (i : ℕ) → count_of (replicate 4 0) i ≡ 0
  none_waits i = go (dec_lt (i - 1) 4)
    where
      go : Dec (i - 1 < 4) → count_of (replicate 4 0) i ≡ 0
      go (yes h) = get_or-replicate 4 (i - 1) 0 0 h
      go (no h) = get_or-eq_default (replicate 4 0) 0 (beyond h)
        where
          beyond : (i - 1 < 4 → ⊥) → 4 ≤ i - 1
          beyond h = omega arith

  pub held_empty : (list : List Waiting) → Held u C list (replicate 4 0)
  unfolding tags_inside
  held_empty list = record {
    four = refl;
    few = λ i h. omega (arith, none_waits i);
    tags = λ i h. rw (none_waits i);
    sound = λ i l. absurd (omega (arith, none_waits i));
  }

  pub held : (turn : ℕ) (list : List Waiting) (actions : List Action) → Keeps (brought u C turn list actions)
  held turn list actions = held_all actions (empty_port turn list) (held_empty list)
