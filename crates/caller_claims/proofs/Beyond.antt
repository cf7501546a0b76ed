-- What lies beyond caller C's queue is neither read nor changed: a call does the same on the port that ends there. Assumes nothing.
use Rattle.std.proofs.Common.{Err, Ok, Some, None}
use Prim.Native.Nat.{ℕ, zero, suc, ◌+◌, ◌-◌, ◌*◌, ◌≤◌, ◌<◌}
use mathlib.Core.Path.{◌≡◌, refl, ap, ◌∙◌, sym}
use mathlib.Core.Bool.{Bool, true, false, cond, not}
use mathlib.Core.List.{List, [], ◌∷◌, ◌++◌, append_assoc}
use native.Mathlib.Omega.{arith}
use lib.Dec.{eqb, leb}
use lib.ListN.{length, take, drop, take-append-drop}
use lib.Seq.{take-take, take-set-lt, drop-set-lt, get_or-take}
use Rattle.words.proofs.Tests.{by_test, and_right}
use Rattle.words.proofs.BelowLaws.{some_same}
use Rattle.unit.specs.declared.FunctionUnit.{FunctionUnit}
use Rattle.unit.specs.declared.Refusal.{Refusal}
use Rattle.unit.specs.declared.Refusal.TheVariants.{NotSound, NoSuchCaller}
use Rattle.unit.specs.Answers.{Answer}
use Rattle.unit.specs.Unit.{inside, sound_of}
use Rattle.unit.proofs.Laws.{inside_of, within as bounds}
use Rattle.queue.specs.declared.Waiting.{Waiting}
use Rattle.queue.specs.Passed.{Passed}
use Rattle.queue.specs.Line.{tags_inside}
use Rattle.queue.specs.Calls.{oldest, passed_then, bank_then, fewer}
use Rattle.callers.specs.Turn.{each_caller, round, first_after, next_turn, turn_now}
use Rattle.callers.specs.Queues.{room, place_of, queue_of, with_queue, count_of, with_count, waiting_of, has_work}
use Rattle.callers.specs.Calls.{one_of, arrival_at, arrival_of, unit_at, passed_at, served_by, counts_then, unit_of}
use Rattle.callers.proofs.RoundLaws.{round_inside}
use Rattle.caller_claims.specs.Runs.{Port, Call, after, arrived_at, served_at}
use Rattle.caller_claims.specs.Runs.Call.{arrival, unit}
use Rattle.caller_claims.specs.Claims.{within, with_beyond, NothingBeyond}
use Rattle.caller_claims.proofs.PartLaws.{part_before}
use Rattle.caller_claims.specs.Tasks.{caller_in, passed_in}
use Rattle.caller_claims.proofs.PortLaws.{caller_inside, arrived_by, arrival_port, arrival_refused, left_by, unit_port, unit_refused}

-- Lists that are cut

-- what comes from place m on, where the list is cut at n
drop_cut : {A : Type 0} (m n : ℕ) (l : List A) → m ≤ n → drop m l ≡ drop m (take n l) ++ drop n l
drop_cut zero n l h = sym (take-append-drop n l)
drop_cut (suc m) zero l h = absurd (omega arith)
drop_cut (suc m) (suc n) [] h = refl
drop_cut (suc m) (suc n) (x ∷ l) h = drop_cut m n l (omega arith)

module _ (C : ℕ) (list : List Waiting) (counts : List ℕ) (i : ℕ) (ii : inside i C ≡ true) where
  reaches : place_of i + room ≤ room * C
  reaches = omega (arith, (bounds i C ii).least, (bounds i C ii).most)

  counted : i - 1 < C
  counted = omega (arith, (bounds i C ii).least, (bounds i C ii).most)

  queue_cut : queue_of (take (room * C) list) i ≡ queue_of list i
  queue_cut = part_before (place_of i) room (room * C) list reaches

  count_cut : count_of (take C counts) i ≡ count_of counts i
  count_cut = get_or-take C counts (i - 1) 0 counted

  line_cut : waiting_of (take (room * C) list) (take C counts) i ≡ waiting_of list counts i
  line_cut = ap (λ (n : ℕ). take n (queue_of (take (room * C) list) i)) count_cut ∙ ap (take (count_of counts i)) queue_cut

  -- a change of the caller's queue or count is one of what is cut off to the left
  put_queue : (q : List Waiting) → with_queue list i q ≡ with_queue (take (room * C) list) i q ++ drop (room * C) list
  put_queue q =
      ap (λ (l : List Waiting). take (place_of i) list ++ q ++ l) (drop_cut (place_of i + room) (room * C) list reaches)
      ∙ sym (append_assoc (take (place_of i) list ++ q) (drop (place_of i + room) (take (room * C) list)) (drop (room * C) list))
      ∙ ap (λ (l : List Waiting). l ++ q ++ drop (place_of i + room) (take (room * C) list) ++ drop (room * C) list)
      (sym (take-take (place_of i) (room * C) list (omega (arith, reaches))))

  put_count : (n : ℕ) → with_count counts i n ≡ with_count (take C counts) i n ++ drop C counts
  put_count n =
      sym (take-append-drop C (with_count counts i n))
      ∙ ap (λ (l : List ℕ). l ++ drop C (with_count counts i n)) (take-set-lt C counts (i - 1) n counted)
      ∙ ap (λ (l : List ℕ). with_count (take C counts) i n ++ l) (drop-set-lt C counts (i - 1) n counted)

-- The turn goes round among the callers

each_same : (C : ℕ) (f g : ℕ → Bool) → ((i : ℕ) → inside i C ≡ true → f i ≡ g i) → each_caller C f ≡ each_caller C g
unfolding each_caller
each_same C f g h =
    ap not (some_same C (λ k. not (f (k + 1))) (λ k. not (g (k + 1))) (λ k l. ap not (h (k + 1) (inside_of (k + 1) C (omega arith) (omega arith)))))

module _ (C : ℕ) (f g : ℕ → Bool) (same : (i : ℕ) → inside i C ≡ true → f i ≡ g i) where
  first_same : (k t stay : ℕ) → inside t C ≡ true → first_after k C f t stay ≡ first_after k C g t stay
  unfolding first_after
  first_same zero t stay i = refl
  first_same (suc k) t stay i =
      ap (λ b. cond b (round C t) (first_after k C f (round C t) stay)) (same (round C t) (round_inside C t i))
      ∙ ap (cond (g (round C t)) (round C t)) (first_same k (round C t) stay (round_inside C t i))

  now_same : (t : ℕ) → inside t C ≡ true → turn_now C f t ≡ turn_now C g t
  now_same t i = ap (λ b. cond b t (next_turn C f t)) (same t i) ∙ ap (cond (g t) t) (first_same C t t i)

-- The calls

module _ (u : FunctionUnit) (C : ℕ) (p : Port) where
  abbrev cut : Port
  cut = within C p

  -- what refuses a call whose caller is none
  abbrev nowhere : Refusal
  nowhere = cond (sound_of u) NoSuchCaller NotSound

  -- a refused call leaves both as they are
  kept : p ≡ with_beyond C p cut
  kept = λ k. record {
    bank = p.bank;
    turn = p.turn;
    list = sym (take-append-drop (room * C) p.list) k;
    counts = sym (take-append-drop C p.counts) k;
  }

  -- Arrivals

  module _ (i : ℕ) (w : Waiting) where
    arrived_same : one_of C i ≡ true → arrived_at u C p i w ≡ arrived_at u C cut i w
    unfolding arrival_of
    arrived_same e =
        let ii = and_right (inside C 4) (inside i C) e in
        rw (queue_cut C p.list p.counts i ii, count_cut C p.list p.counts i ii)

    -- the same of every port: its queue is not looked at
    arrived_nowhere : one_of C i ≡ false → (q : Port) → arrived_at u C q i w ≡ Err nowhere
    unfolding arrival_of arrival_at
    arrived_nowhere e q = by_test (sound_of u) (λ s. simp (s, e)) (λ s. simp s)

    arrivals : arrived_at u C p i w ≡ arrived_at u C cut i w
    arrivals = by_test (one_of C i) arrived_same (λ e. arrived_nowhere e p ∙ sym (arrived_nowhere e cut))

    arrived_left : inside i C ≡ true → (a : Answer) → arrived_by p i w a ≡ with_beyond C p (arrived_by cut i w a)
    arrived_left ii a = λ k. record { bank = p.bank; turn = p.turn; list = lists k; counts = counts k }
      where
        lists : (arrived_by p i w a).list ≡ (arrived_by cut i w a).list ++ drop (room * C) p.list
        lists = rw (queue_cut C p.list p.counts i ii, count_cut C p.list p.counts i ii) (put_queue C p.list p.counts i ii _)

        counts : (arrived_by p i w a).counts ≡ (arrived_by cut i w a).counts ++ drop C p.counts
        counts = rw (count_cut C p.list p.counts i ii) (put_count C p.list p.counts i ii _)

    arrival_leaves : after u C p (arrival i w) ≡ with_beyond C p (after u C cut (arrival i w))
    arrival_leaves = by_test (one_of C i) here away
      where
        here : one_of C i ≡ true → after u C p (arrival i w) ≡ with_beyond C p (after u C cut (arrival i w))
        here e =
            let a = arrived_at u C p i w in
            arrival_port u C p i w a refl
            ∙ arrived_left (and_right (inside C 4) (inside i C) e) a
            ∙ ap (with_beyond C p) (sym (arrival_port u C cut i w a (sym (arrived_same e))))

        away : one_of C i ≡ false → after u C p (arrival i w) ≡ with_beyond C p (after u C cut (arrival i w))
        away e =
            arrival_refused u C p i w nowhere (arrived_nowhere e p)
            ∙ kept
            ∙ ap (with_beyond C p) (sym (arrival_refused u C cut i w nowhere (arrived_nowhere e cut)))

  -- Time units

  work_cut : (counts : List ℕ) (i : ℕ) → inside i C ≡ true → has_work (take C counts) i ≡ has_work counts i
  work_cut counts i ii = ap (λ n. not (eqb n 0)) (count_cut C p.list counts i ii)

  unit_same : unit_at u C p.turn p.list p.counts ≡ unit_at u C p.turn cut.list cut.counts
  unfolding unit_at
  unit_same = sym (simp (
    each_same C (λ i. leb room (length (queue_of cut.list i))) (λ i. leb room (length (queue_of p.list i)))
        (λ i ii. ap (λ (q : List Waiting). leb room (length q)) (queue_cut C p.list p.counts i ii)),
    each_same C (λ i. leb (count_of cut.counts i) room) (λ i. leb (count_of p.counts i) room)
        (λ i ii. ap (λ (n : ℕ). leb n room) (count_cut C p.list p.counts i ii)),
    each_same C (λ i. tags_inside u.functions (waiting_of cut.list cut.counts i)) (λ i. tags_inside u.functions (waiting_of p.list p.counts i))
        (λ i ii. ap (tags_inside u.functions) (line_cut C p.list p.counts i ii)),
  ))

  module _ (it : inside p.turn C ≡ true) where
    caller_same : caller_in C p ≡ caller_in C cut
    caller_same = now_same C (has_work p.counts) (has_work cut.counts) (λ i ii. sym (work_cut p.counts i ii)) p.turn it

    abbrev c : ℕ
    c = caller_in C p

    ic : inside c C ≡ true
    ic = caller_inside C p it

    passed_same : passed_in u C p ≡ passed_in u C cut
    unfolding passed_at
    passed_same =
        ap (λ (a : Answer). passed_then a (oldest p.bank (waiting_of p.list p.counts c))) unit_same
        ∙ ap (λ (l : List Waiting). passed_then (unit_at u C p.turn cut.list cut.counts) (oldest p.bank l))
        (sym (line_cut C p.list p.counts c ic) ∙ ap (waiting_of cut.list cut.counts) caller_same)

    counts_cut : (a : Passed) → counts_then a cut.counts c ≡ take C (counts_then a p.counts c)
    counts_cut a =
        rw (count_cut C p.list p.counts c ic)
        (sym (take-set-lt C p.counts (c - 1) (fewer a (count_of p.counts c)) (counted C p.list p.counts c ic)))

    turn_same : (a : Passed) → (left_by u C p c a).turn ≡ (left_by u C cut c a).turn
    turn_same (Ok (Some w)) =
        first_same C (has_work (counts_then (Ok (Some w)) p.counts c)) (has_work (counts_then (Ok (Some w)) cut.counts c))
        (λ i ii. sym (ap (λ (l : List ℕ). has_work l i) (counts_cut (Ok (Some w))) ∙ work_cut (counts_then (Ok (Some w)) p.counts c) i ii)) C c c ic
    turn_same (Ok None) = refl
    turn_same (Err why) = refl

    unit_left : (a : Passed) → left_by u C p c a ≡ with_beyond C p (left_by u C cut c a)
    unit_left a = λ k. record { bank = bank_then u a p.bank; turn = turn_same a k; list = lists k; counts = counts k }
      where
        lists : (left_by u C p c a).list ≡ (left_by u C cut c a).list ++ drop (room * C) p.list
        lists = rw (queue_cut C p.list p.counts c ic, count_cut C p.list p.counts c ic) (put_queue C p.list p.counts c ic _)

        counts : (left_by u C p c a).counts ≡ (left_by u C cut c a).counts ++ drop C p.counts
        counts = rw (count_cut C p.list p.counts c ic) (put_count C p.list p.counts c ic _)

    here_leaves : after u C p unit ≡ with_beyond C p (after u C cut unit)
    here_leaves =
        let a = passed_in u C p in
        unit_port u C p a refl
        ∙ unit_left a
        ∙ ap (λ (j : ℕ). with_beyond C p (left_by u C cut j a)) caller_same
        ∙ ap (with_beyond C p) (sym (unit_port u C cut a (sym passed_same)))

    here_served : served_at u C p ≡ served_at u C cut
    unfolding unit_of
    here_served = ap (served_by c) passed_same ∙ ap (λ (j : ℕ). served_by j (passed_in u C cut)) caller_same

  -- the same of every port with this turn: its queues are not looked at
  passed_nowhere : one_of C p.turn ≡ false → (q : Port) → q.turn ≡ p.turn → passed_in u C q ≡ Err nowhere
  unfolding passed_at unit_at
  passed_nowhere e q t = by_test (sound_of u) (λ s. simp (t, e, s)) (λ s. simp s)

  units : served_at u C p ≡ served_at u C cut
  unfolding unit_of
  units = by_test (one_of C p.turn)
      (λ e. here_served (and_right (inside C 4) (inside p.turn C) e))
      (λ e. ap (served_by (caller_in C p)) (passed_nowhere e p refl) ∙ ap (served_by (caller_in C cut)) (sym (passed_nowhere e cut refl)))

  unit_leaves : after u C p unit ≡ with_beyond C p (after u C cut unit)
  unit_leaves = by_test (one_of C p.turn) (λ e. here_leaves (and_right (inside C 4) (inside p.turn C) e)) away
    where
      away : one_of C p.turn ≡ false → after u C p unit ≡ with_beyond C p (after u C cut unit)
      away e =
          unit_refused u C p nowhere (passed_nowhere e p refl)
          ∙ kept
          ∙ ap (with_beyond C p) (sym (unit_refused u C cut nowhere (passed_nowhere e cut refl)))

  leaves : (k : Call) → after u C p k ≡ with_beyond C p (after u C cut k)
  leaves (arrival i w) = arrival_leaves i w
  leaves unit = unit_leaves

pub nothing_beyond : NothingBeyond
nothing_beyond u C p = record { units = units u C p; arrivals = arrivals u C p; leaves = leaves u C p }
