-- A plan whose cycle never collides plays without end. The argument: the events of the ring's bits, one after the other, are a list of events from the
-- empty bank; the tasks that it starts are those of the cycle; and a start of the cycle clashes with none before it, so that the bank grants it.
-- Assumes nothing.
use Rattle.std.proofs.Common.{Ok}
use Prim.Native.Nat.{ℕ, zero, suc, ◌+◌, ◌*◌, ◌/◌, ◌%◌, ◌<◌}
use mathlib.Core.Path.{◌≡◌, refl, sym, ap, ap₂, ◌∙◌, subst, subst₂}
use mathlib.Core.Bool.{Bool, true, false, cond, not}
use mathlib.Core.Logic.{⊎_elim}
use mathlib.Core.List.Memᴰ
use mathlib.Core.List.{List, [], ◌∷◌, ◌++◌, Memᴰ}
use native.Mathlib.Decide.{dec_lt}
use native.Mathlib.Nat.{le_dest, mod-lt, div-add-mod', suc-mod, mod_self, mod-eq_of_lt, mul-add-mod_self_right, le_of_lt, le_refl}
use native.Mathlib.Numerals.{add-one}
use native.Mathlib.Omega.{arith}
use borrow.Author.Tests.{eqb-true, eqb-false, not-true, not-false}
use lib.Dec.{eqb}
use lib.ListN.{length, take}
use Rattle.words.proofs.Tests.{by_test}
use Rattle.unit.specs.declared.Plan.{Plan}
use Rattle.unit.specs.declared.FunctionUnit.{FunctionUnit}
use Rattle.unit.specs.Answers.{Answer}
use Rattle.unit.specs.Unit.{inside, marked, sound_of}
use Rattle.unit.specs.Calls.{tag_answer}
use Rattle.collision.specs.Pipeline.{Task, Clash, Cycle, total, start_at, task_at, NeverCollides}
use Rattle.collision.proofs.StartLaws.{start_at_take, start_at_turns_add, interval_least}
use Rattle.controller.specs.declared.Bank.{Bank}
use Rattle.controller.specs.declared.Event.{Event}
use Rattle.controller.specs.declared.Event.TheVariants.{Tick, Start}
use Rattle.controller.specs.Bank.{empty, event_answer, moved, bank_then, step_of}
use Rattle.controller.specs.History.{History, Course, task_now, accepted, history_then, outset, next, played}
use Rattle.controller.proofs.Demand2.{granted_exactly}
use Rattle.plan_record.specs.Record.{Recordable, starts}
use Rattle.plan_record.specs.Write.{cycle_in, holds_cycle}
use Rattle.plan_record.proofs.CycleLaws.{sum_all, sum_rises, total_least}
use Rattle.plan_record.proofs.RingLaws.{start_has, start_of}
use Rattle.plan_record.proofs.PlanLaws.{held}
use Rattle.simulator.specs.declared.UnitPlayed.{UnitPlayed}
use Rattle.simulator.specs.Step.{tag_of, bit_of, event_of, position_after, playing, play_of}
use Rattle.simulator.specs.Play.{Place, onward, place_after, unit_after}
use Rattle.simulator.specs.Claims.{PlaysAt, FallsOn, task_of, Plays}
use Rattle.simulator.specs.Inner.{OnRing, Playable}
use Rattle.simulator.proofs.StepLaws.{bit_starts, ring_answer_lem}

-- one more event
played_more : (u : FunctionUnit) (events : List Event) (c : Course) (e : Event) → played u c (events ++ (e ∷ [])) ≡ next u (played u c events) e
unfolding played
played_more u [] c e = refl
played_more u (x ∷ events) c e = played_more u events (next u c x) e

-- the events of the first n units
unfoldable events_below : Plan → ℕ → List Event
events_below p zero = []
events_below p (suc n) = events_below p n ++ (event_of p (n % p.sum) ∷ [])

-- a task of the cycle that started before n
record Earlier (p : Plan) (n : ℕ) (y : Task) : Type 0 where
  pub index : ℕ
  pub task : y ≡ task_at p.tag (cycle_in p) index
  pub before : start_at (cycle_in p) index < n

-- the history of n units: n of time, and tasks of the cycle alone
record Told (p : Plan) (n : ℕ) (h : History) : Type 0 where
  pub time : h.time ≡ n
  pub tasks : (y : Task) → Memᴰ y h.tasks → Earlier p n y

module _ (p : Plan) (holds : holds_cycle p ≡ true) where
  abbrev cycle : List ℕ
  cycle = cycle_in p

  can : Recordable cycle
  can = (held p holds).cycle

  sum_is : p.sum ≡ total cycle
  sum_is = (held p holds).holds.sum

  some : 0 < p.sum
  some = omega (arith, sum_is, total_least cycle can)

  on_ring : (n : ℕ) → OnRing p (n % p.sum)
  on_ring n = record { holds = holds; before = mod-lt n some }

  rising : Cycle 1 cycle
  rising = record { nonempty = can.some; each = can.least }

  -- a unit with bit 0 is a start of the cycle
  start_is : (n : ℕ) → bit_of p (n % p.sum) ≡ false → FallsOn cycle n
  start_is n e =
      let s = start_has cycle (n % p.sum) can (not-false _ (sym (bit_starts p (n % p.sum) (on_ring n)) ∙ e)) in
      let k = s.index in
      let turns = start_at_turns_add cycle (n / p.sum) k in
      let first = start_at_take cycle k (le_of_lt s.inside) in
      let whole : n / p.sum * p.sum + n % p.sum ≡ n = div-add-mod' n p.sum in
      let same : n / p.sum * total cycle ≡ n / p.sum * p.sum = ap (λ t. n / p.sum * t) (sym sum_is) in
      record { index = n / p.sum * length cycle + k; start = omega (arith, turns, first, whole, same, s.sum) }

  -- and every start of the cycle is one
  start_bit : (j : ℕ) → bit_of p (start_at cycle j % p.sum) ≡ false
  start_bit j =
      let K = length cycle in
      let r = j / K in
      let k = j % K in
      let below : k < K = mod-lt j can.some in
      let whole : r * K + k ≡ j = div-add-mod' j K in
      let first = start_at_take cycle k (le_of_lt below) in
      let same : r * total cycle ≡ r * p.sum = ap (λ t. r * t) (sym sum_is) in
      let at : start_at cycle j ≡ r * p.sum + total (take k cycle) =
      ap (start_at cycle) (sym whole) ∙ omega (arith, start_at_turns_add cycle r k, first, same) in
      let less : total (take k cycle) < p.sum = omega (arith, sum_rises cycle can k K below (le_refl K), sum_all cycle, sum_is) in
      let place : start_at cycle j % p.sum ≡ total (take k cycle) =
      ap (λ m. m % p.sum) at ∙ mul-add-mod_self_right r p.sum (total (take k cycle)) ∙ mod-eq_of_lt less in
      bit_starts p (start_at cycle j % p.sum) (on_ring (start_at cycle j)) ∙ ap (λ m. not (starts cycle m)) place ∙ ap not (start_of cycle k can below)

  falls_bit : (n : ℕ) → FallsOn cycle n → bit_of p (n % p.sum) ≡ false
  falls_bit n f = sym (ap (λ m. bit_of p (m % p.sum)) f.start) ∙ start_bit f.index

  -- an earlier start has a smaller index
  start_order : (j m : ℕ) → start_at cycle j < start_at cycle m → j < m
  start_order j m h = go (dec_lt j m)
    where
      go : Dec (j < m) → j < m
      go (yes o) = o
      go (no n) =
          let d : (k : ℕ) × (m + k ≡ j) = le_dest (omega arith) in
          absurd (omega (arith, interval_least cycle rising m d.0, ap (start_at cycle) d.1))

  -- the position after n modulo S
  following_is : (n : ℕ) → position_after p (n % p.sum) ≡ suc n % p.sum
  following_is n =
      by_test (eqb (n % p.sum + 1) p.sum)
      (λ e.
      let s : suc (n % p.sum) ≡ p.sum = omega (arith, eqb-true (n % p.sum + 1) p.sum e) in
      ap (λ b. cond b 0 (n % p.sum + 1)) e ∙ sym (suc-mod n p.sum ∙ ap (λ k. k % p.sum) s ∙ mod_self p.sum))
      (λ e.
      let ne = eqb-false (n % p.sum + 1) p.sum e in
      let below : suc (n % p.sum) < p.sum = omega (arith, mod-lt n some) in
      ap (λ b. cond b 0 (n % p.sum + 1)) e ∙ sym (suc-mod n p.sum ∙ mod-eq_of_lt below ∙ sym (add-one (n % p.sum))))

  module _ (u : FunctionUnit) (sound : sound_of u ≡ true) (member : inside p.tag u.functions ≡ true) (never : NeverCollides (marked u) p.tag cycle) where
    playable : (n : ℕ) → Playable u p (n % p.sum)
    unfolding tag_answer
    playable n = record { tag = rw (sound, member); ring = on_ring n }

    abbrev course : ℕ → Course
    course n = played u outset (events_below p n)

    -- the bank grants every start
    granted_start : (n : ℕ) → Told p n (course n).history → bit_of p (n % p.sum) ≡ false → event_answer u (course n).bank (Start (tag_of p)) ≡ Ok tt
    granted_start n t e = (granted_exactly u sound (events_below p n) (tag_of p) member).1 free
      where
        free : (y : Task) → Memᴰ y (course n).history.tasks → Clash (marked u) y (task_now (course n).history p.tag) → ⊥
        free y m clash =
            let x = t.tasks y m in
            let s = start_is n e in
            let now : task_now (course n).history p.tag ≡ task_at p.tag cycle s.index =
            ap (λ (k : ℕ). record { tag = p.tag; start = k }) (t.time ∙ sym s.start) in
            never x.index s.index (start_order x.index s.index (omega (arith, x.before, s.start)))
            (subst₂ (λ (a b : Task). Clash (marked u) a b) x.task now clash)

    tick_done : (b : Bank) → event_answer u b Tick ≡ Ok tt
    unfolding event_answer
    tick_done b = rw sound

    granted_event : (n : ℕ) → Told p n (course n).history → event_answer u (course n).bank (event_of p (n % p.sum)) ≡ Ok tt
    granted_event n t =
        by_test (bit_of p (n % p.sum))
        (λ e. ap (λ b. event_answer u (course n).bank (cond b Tick (Start (tag_of p)))) e ∙ tick_done (course n).bank)
        (λ e. ap (λ b. event_answer u (course n).bank (cond b Tick (Start (tag_of p)))) e ∙ granted_start n t e)

    -- one unit more
    course_next : (n : ℕ) → course (suc n) ≡ next u (course n) (event_of p (n % p.sum))
    unfolding events_below
    course_next n = played_more u (events_below p n) outset (event_of p (n % p.sum))

    history_next_lem : (n : ℕ) → Told p n (course n).history → (course (suc n)).history ≡ accepted (course n).history (event_of p (n % p.sum))
    unfolding step_of
    history_next_lem n t =
        ap (λ (c : Course). c.history) (course_next n)
        ∙ ap (λ (a : Answer). history_then a (course n).history (event_of p (n % p.sum))) (granted_event n t)

    bank_next : (n : ℕ) → Told p n (course n).history → (course (suc n)).bank ≡ moved u (course n).bank (event_of p (n % p.sum))
    unfolding step_of
    bank_next n t =
        ap (λ (c : Course). c.bank) (course_next n)
        ∙ ap (λ (a : Answer). bank_then a (course n).bank (moved u (course n).bank (event_of p (n % p.sum)))) (granted_event n t)

    later : (n : ℕ) (y : Task) → Earlier p n y → Earlier p (suc n) y
    later n y x = record { index = x.index; task = x.task; before = omega (arith, x.before) }

    told_event : (n : ℕ) (h : History) → Told p n h → (bit : Bool) → bit_of p (n % p.sum) ≡ bit → Told p (suc n) (accepted h (cond bit Tick (Start (tag_of p))))
    told_event n h t true e = record { time = omega (arith, t.time); tasks = λ y m. later n y (t.tasks y m) }
    told_event n h t false e = record {
      time = omega (arith, t.time);
      tasks = λ y m. ⊎_elim (λ new. fresh y new) (λ old. later n y (t.tasks y old)) (Memᴰ.cases_cons m);
    }
      where
        fresh : (y : Task) → y ≡ task_now h p.tag → Earlier p (suc n) y
        fresh y new =
            let s = start_is n e in
            record {
              index = s.index;
              task = new ∙ ap (λ (k : ℕ). record { tag = p.tag; start = k }) (t.time ∙ sym s.start);
              before = omega (arith, s.start);
            }

    told : (n : ℕ) → Told p n (course n).history
    unfolding events_below played
    told zero = record { time = refl; tasks = λ y m. absurd (Memᴰ.not-nil m) }
    told (suc n) =
        let t = told n in
        subst (λ (h : History). Told p (suc n) h) (sym (history_next_lem n t)) (told_event n (course n).history t (bit_of p (n % p.sum)) refl)

    -- the step is played
    played_is : (n : ℕ) → play_of u p (n % p.sum) (course n).bank ≡ playing (Ok tt) u p (n % p.sum) (course n).bank
    unfolding play_of
    played_is n =
        ap (λ (a : Answer). playing a u p (n % p.sum) (course n).bank)
        (sym (ring_answer_lem u p (n % p.sum) (course n).bank (playable n)) ∙ granted_event n (told n))

    abbrev place_at_lem : ℕ → Place
    place_at_lem n = record { position = n % p.sum; bank = (course n).bank }

    place_is : (n : ℕ) → place_after u p n ≡ place_at_lem n
    unfolding place_after events_below played
    place_is zero = λ i. record { position = sym (mod-eq_of_lt some) i; bank = empty }
    place_is (suc n) =
        ap (λ (x : Place). onward (play_of u p x.position x.bank)) (place_is n)
        ∙ (λ i. record {
          position = (ap (λ (x : UnitPlayed). x.position) (played_is n) ∙ following_is n) i;
          bank = (ap (λ (x : UnitPlayed). x.bank) (played_is n) ∙ sym (bank_next n (told n))) i;
        })

    unit_is : (n : ℕ) → unit_after u p n ≡ playing (Ok tt) u p (n % p.sum) (course n).bank
    unit_is n = ap (λ (x : Place). play_of u p x.position x.bank) (place_is n) ∙ played_is n

    bank_is : (n : ℕ) → (place_after u p n).bank ≡ (course n).bank
    bank_is n = ap (λ (x : Place). x.bank) (place_is n)

    bit_is : (n : ℕ) → bit_of p (place_after u p n).position ≡ bit_of p (n % p.sum)
    bit_is n = ap (λ (x : Place). bit_of p x.position) (place_is n)

    started_is : (n : ℕ) → (unit_after u p n).started ≡ not (bit_of p (n % p.sum))
    started_is n = ap (λ (x : UnitPlayed). x.started) (unit_is n)

    -- the event of the unit, granted, and the bank that it leaves
    abbrev Goes : ℕ → Event → Bool → Type 0
    Goes n x started =
        ((step_of u (place_after u p n).bank x).answer ≡ Ok tt) × ((step_of u (place_after u p n).bank x).bank ≡ (place_after u p (n + 1)).bank)
        × ((unit_after u p n).started ≡ started)

    goes : (n : ℕ) (x : Event) (bit : Bool) → bit_of p (n % p.sum) ≡ bit → event_of p (n % p.sum) ≡ x → Goes n x (not bit)
    unfolding step_of
    goes n x bit b e =
        let g : event_answer u (place_after u p n).bank x ≡ Ok tt =
        ap₂ (λ (k : Bank) (y : Event). event_answer u k y) (bank_is n) (sym e) ∙ granted_event n (told n) in (
          g,
          ap (λ (a : Answer). bank_then a (place_after u p n).bank (moved u (place_after u p n).bank x)) g
              ∙ ap₂ (λ (k : Bank) (y : Event). moved u k y) (bank_is n) (sym e) ∙ sym (bank_next n (told n)) ∙ sym (bank_is (suc n))
              ∙ ap (λ k. (place_after u p k).bank) (sym (add-one n)),
          started_is n ∙ ap not b,
        )

    plays_at : (n : ℕ) → PlaysAt u p n
    plays_at n = record {
      position = ap (λ (x : Place). x.position) (place_is n);
      accepted = ap (λ (x : UnitPlayed). x.answer) (unit_is n);
      start = λ e. let b = sym (bit_is n) ∙ e in goes n (Start (tag_of p)) false b (ap (λ b. cond b Tick (Start (tag_of p))) b);
      tick = λ e. let b = sym (bit_is n) ∙ e in goes n Tick true b (ap (λ b. cond b Tick (Start (tag_of p))) b);
    }

    started_falls : (n : ℕ) → (unit_after u p n).started ≡ true → FallsOn cycle n
    started_falls n e = start_is n (not-true _ (sym (started_is n) ∙ e))

    pub never_plays : Plays u p
    never_plays = record {
      each = plays_at;
      starts = λ n. (started_falls n, λ f. started_is n ∙ ap not (falls_bit n f));
      apart = λ m n h a b clash.
          let x = started_falls m a in
          let y = started_falls n b in
          never x.index y.index (start_order x.index y.index (omega (arith, x.start, y.start)))
          (subst₂ (λ (j k : ℕ). Clash (marked u) (task_of p j) (task_of p k)) (sym x.start) (sym y.start) clash);
    }
