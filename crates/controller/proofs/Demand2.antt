-- A start is granted exactly when its task collides with none of the tasks granted before it.
-- The argument: bit k of register r is 1 exactly when r, started k time units from now, would collide with a granted task. This holds of an
-- empty bank, and every event keeps it. Assumes nothing.
use Rattle.std.proofs.Common.{Ok, Err}
use Prim.Native.Nat.{ℕ, ◌+◌, ◌-◌, ◌%◌, ◌≤◌, ◌<◌}
use mathlib.Core.Path.{◌≡◌, refl, ap, ◌∙◌, sym, subst}
use mathlib.Core.Bool.{true, false, ◌||◌}
use mathlib.Core.Logic.{◌↔◌, ⊎_elim}
use mathlib.Core.List.Memᴰ
use mathlib.Core.List.{List, [], ◌∷◌, Memᴰ}
use native.Mathlib.Omega.{arith}
use borrow.Author.Tests.{eqb-true, eq-eqb}
use Rattle.words.specs.Bits.{bit, is_set}
use Rattle.words.proofs.Tests.{nowhere, or_cases, or_true_left, or_true_right, not_passed}
use Rattle.words.proofs.BitLaws.{bit_zero, unset_zero}
use Rattle.unit.specs.declared.FunctionUnit.{FunctionUnit}
use Rattle.unit.specs.Answers.{Answer}
use Rattle.unit.specs.Table.{Table}
use Rattle.unit.specs.Unit.{inside, marked, sound_of}
use Rattle.unit.proofs.Laws.{within, sound_has}
use Rattle.collision.specs.Pipeline.{Task, Collides}
use Rattle.collision.specs.Vector.{row_word}
use Rattle.collision.proofs.ClashLaws.{clash_collides}
use Rattle.controller.specs.declared.Bank.{Bank}
use Rattle.controller.specs.declared.Event.{Event}
use Rattle.controller.specs.declared.Event.TheVariants.{Tick, Start}
use Rattle.controller.specs.Bank.{register, shifted, started, granted, event_answer, moved, bank_then, step_of}
use Rattle.controller.specs.History.{History, Course, task_now, accepted, history_then, outset, next, played, Free, Apart, GrantedExactly, GrantedApart}
use Rattle.controller.proofs.StepLaws.{start_accepted, start_answered}
use Rattle.controller.proofs.BankLaws.{empty_bit, shifted_bit, started_bit, row_says}

-- one of the tasks keeps r from starting at the time m
pub record Barred (T : Table) (r m : ℕ) (tasks : List Task) : Type 0 where
  pub task : Task
  pub listed : Memᴰ task tasks
  pub interval : ℕ
  pub least : 1 ≤ interval
  pub moment : task.start + interval ≡ m
  pub collides : Collides T r task.tag interval

-- the same task in another list
barred_in : {T : Table} {r m : ℕ} {tasks others : List Task} (x : Barred T r m tasks) → Memᴰ x.task others → Barred T r m others
barred_in x l = record { task = x.task; listed = l; interval = x.interval; least = x.least; moment = x.moment; collides = x.collides }

-- every task has started
abbrev pub Past : History → Type 0
Past h = (y : Task) → Memᴰ y h.tasks → y.start < h.time

-- the registers of the unit's tags say when each function is barred
abbrev pub Notes : FunctionUnit → Bank → History → Type 0
Notes u b h = (r k : ℕ) → inside r u.functions ≡ true → (is_set (register b r) k ≡ true) ↔ Barred (marked u) r (h.time + k) h.tasks

-- the invariant of a list of events
pub record Kept (u : FunctionUnit) (c : Course) : Type 0 where
  pub past : Past c.history
  pub notes : Notes u c.bank c.history
  pub apart : Apart (marked u) c.history.tasks

-- Granted starts

module _ (u : FunctionUnit) (b : Bank) (h : History) (q : ℕ) (i : inside q u.functions ≡ true) (past : Past h) (notes : Notes u b h) where
  granted_free : granted b q ≡ true → Free (marked u) (task_now h q) h.tasks
  granted_free e y m c =
      let d = h.time - y.start in
      let l = past y m in
      let s : h.time ≡ y.start + d = omega arith in
      let x = (notes q 0 i).1 record {
        task = y;
        listed = m;
        interval = d;
        least = omega arith;
        moment = omega arith;
        collides = (clash_collides (marked u) y (task_now h q) d s).0 c;
      } in
      omega (arith, eqb-true (register b q % 2) 0 e, eqb-true (bit (register b q) 0) 1 x, bit_zero (register b q))

  free_granted : Free (marked u) (task_now h q) h.tasks → granted b q ≡ true
  free_granted f =
      let n : is_set (register b q) 0 ≡ false =
      not_passed (is_set (register b q) 0)
      (λ e.
      let x = (notes q 0 i).0 e in
      let s : h.time ≡ x.task.start + x.interval = omega (arith, x.moment) in
      f x.task x.listed ((clash_collides (marked u) x.task (task_now h q) x.interval s).1 x.collides)) in
      eq-eqb (register b q % 2) 0 (sym (bit_zero (register b q)) ∙ unset_zero (register b q) 0 n)

-- The invariant

kept_outset : (u : FunctionUnit) → Kept u outset
kept_outset u = record {
  past = λ y m. absurd (Memᴰ.not-nil m);
  notes = λ r k i. (λ e. nowhere (sym (empty_bit r k) ∙ e), λ x. absurd (Memᴰ.not-nil x.listed));
  apart = tt;
}

module _ (u : FunctionUnit) (c : Course) (kept : Kept u c) where
  -- the time unit after the present one
  later : (k : ℕ) → c.history.time + (1 + k) ≡ c.history.time + 1 + k
  later k = omega arith

  -- what is noted of the next time units, moved on by one
  noted : (r k : ℕ) → inside r u.functions ≡ true
      → (is_set (register c.bank r) (1 + k) ≡ true) ↔ Barred (marked u) r (c.history.time + 1 + k) c.history.tasks
  noted r k i = subst (λ (m : ℕ). (is_set (register c.bank r) (1 + k) ≡ true) ↔ Barred (marked u) r m c.history.tasks) (later k) (kept.notes r (1 + k) i)

  kept_tick : Kept u (record { bank = shifted c.bank; history = accepted c.history Tick })
  kept_tick = record {
    past = λ y m. omega (arith, kept.past y m);
    notes = λ r k i. (λ e. (noted r k i).0 (sym (shifted_bit c.bank r k) ∙ e), λ x. shifted_bit c.bank r k ∙ (noted r k i).1 x);
    apart = kept.apart;
  }

  module _ (q : ℕ) (i : inside q u.functions ≡ true) (four : u.functions ≤ 4) (g : granted c.bank q ≡ true) where
    abbrev new : Task
    new = task_now c.history q

    past_start : (y : Task) → Memᴰ y (new ∷ c.history.tasks) → y.start < c.history.time + 1
    past_start y m = ⊎_elim (λ e. omega (arith, ap (λ (x : Task). x.start) e)) (λ n. omega (arith, kept.past y n)) (Memᴰ.cases_cons m)

    -- bit k after the start
    both : (r k : ℕ) → inside r u.functions ≡ true
        → is_set (register (started u q c.bank) r) k ≡ is_set (register c.bank r) (1 + k) || is_set (row_word (marked u) r q) k
    both r k j = let w = within r u.functions j in started_bit u q c.bank r k w.least (omega arith) w.most

    notes_there : (r k : ℕ) → inside r u.functions ≡ true → is_set (register (started u q c.bank) r) k ≡ true
        → Barred (marked u) r (c.history.time + 1 + k) (new ∷ c.history.tasks)
    notes_there r k j e = ⊎_elim old fresh (or_cases (is_set (register c.bank r) (1 + k)) _ (sym (both r k j) ∙ e))
      where
        old : is_set (register c.bank r) (1 + k) ≡ true → Barred (marked u) r (c.history.time + 1 + k) (new ∷ c.history.tasks)
        old e = let x = (noted r k j).0 e in barred_in x (Memᴰ.tail x.listed)

        fresh : is_set (row_word (marked u) r q) k ≡ true → Barred (marked u) r (c.history.time + 1 + k) (new ∷ c.history.tasks)
        fresh e = record {
          task = new;
          listed = Memᴰ.head refl;
          interval = k + 1;
          least = omega arith;
          moment = omega arith;
          collides = (row_says u r q k).0 e;
        }

    notes_back : (r k : ℕ) → inside r u.functions ≡ true → Barred (marked u) r (c.history.time + 1 + k) (new ∷ c.history.tasks)
        → is_set (register (started u q c.bank) r) k ≡ true
    notes_back r k j x = both r k j ∙ ⊎_elim fresh old (Memᴰ.cases_cons x.listed)
      where
        fresh : x.task ≡ new → is_set (register c.bank r) (1 + k) || is_set (row_word (marked u) r q) k ≡ true
        fresh e =
            let d : x.interval ≡ k + 1 = omega (arith, x.moment, ap (λ (y : Task). y.start) e) in
            let l : Collides (marked u) r q x.interval = subst (λ (y : Task). Collides (marked u) r y.tag x.interval) e x.collides in
            or_true_right (is_set (register c.bank r) (1 + k)) _ ((row_says u r q k).1 (rw d at l))

        old : Memᴰ x.task c.history.tasks → is_set (register c.bank r) (1 + k) || is_set (row_word (marked u) r q) k ≡ true
        old m = or_true_left (is_set (register c.bank r) (1 + k)) _ ((noted r k j).1 (barred_in x m))

    kept_start : Kept u (record { bank = started u q c.bank; history = record { time = c.history.time + 1; tasks = new ∷ c.history.tasks } })
    kept_start = record {
      past = past_start;
      notes = λ r k j. (notes_there r k j, notes_back r k j);
      apart = (granted_free u c.bank c.history q i kept.past kept.notes g, kept.apart);
    }

-- A list of events

module _ (u : FunctionUnit) (sound : sound_of u ≡ true) where
  kept_next : (c : Course) (e : Event) → Kept u c → Kept u (next u c e)
  unfolding step_of moved
  kept_next c e kept = go e (event_answer u c.bank e) refl
    where
      go : (e : Event) (a : Answer) → event_answer u c.bank e ≡ a
          → Kept u (record { bank = bank_then a c.bank (moved u c.bank e); history = history_then a c.history e })
      go e (Err why) p = kept
      go Tick (Ok _) p = kept_tick u c kept
      go (Start q) (Ok _) p =
          let s = start_accepted u c.bank q p in
          kept_start u c kept q.0 s.tag (within u.functions 4 (sound_has u sound).functions).most s.granted

  kept_played : (events : List Event) (c : Course) → Kept u c → Kept u (played u c events)
  unfolding played
  kept_played [] c kept = kept
  kept_played (e ∷ events) c kept = kept_played events (next u c e) (kept_next c e kept)

  kept_after : (events : List Event) → Kept u (played u outset events)
  kept_after events = kept_played events outset (kept_outset u)

pub granted_exactly : GrantedExactly
granted_exactly u sound events q i =
    let c = played u outset events in
    let kept = kept_after u sound events in (
      λ e. granted_free u c.bank c.history q.0 i kept.past kept.notes (start_accepted u c.bank q e).granted,
      λ f. start_answered u c.bank q sound i (free_granted u c.bank c.history q.0 i kept.past kept.notes f),
    )

pub granted_apart : GrantedApart
granted_apart u sound events = (kept_after u sound events).apart
