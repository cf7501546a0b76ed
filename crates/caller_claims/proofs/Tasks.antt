-- The shared port's actions are the controller's events, so that its theorems hold of the tasks that the port starts. Assumes nothing.
use Rattle.std.proofs.Common.{Ok, Err, Some, None}
use Prim.Native.Nat.{ℕ}
use mathlib.Core.Path.{◌≡◌, refl, ap, ◌∙◌, sym, subst}
use mathlib.Core.Bool.{true}
use mathlib.Core.List.{List, [], ◌∷◌}
use native.Mathlib.Omega.{arith}
use Rattle.words.proofs.Tests.{and_right}
use Rattle.unit.specs.declared.FunctionUnit.{FunctionUnit}
use Rattle.unit.specs.Answers.{Answer}
use Rattle.unit.specs.Unit.{inside, marked, sound_of}
use Rattle.controller.specs.declared.Event.TheVariants.{Start}
use Rattle.controller.specs.Bank.{event_answer}
use Rattle.controller.specs.History.{History, Course, outset, played, Apart}
use Rattle.queue.specs.declared.Waiting.{Waiting}
use Rattle.queue.specs.Passed.{Passed}
use Rattle.queue.specs.Line.{no_record, tag_of}
use Rattle.queue_claims.proofs.PassLaws.{was_started, was_idle}
use Rattle.queue_claims.proofs.PlayLaws.{played_joined, started_answered, unit_plays, all_apart, grants_exactly}
use Rattle.callers.specs.Served.{Served}
use Rattle.callers.specs.Calls.{unit_at, passed_at, served_by, unit_of}
use Rattle.caller_claims.specs.Runs.{Port, Action, line_of, after, done, done_all, empty_port, brought}
use Rattle.caller_claims.specs.Runs.Call.{arrival, unit}
use Rattle.caller_claims.specs.Runs.Action.{event, call}
use Rattle.caller_claims.specs.Tasks.{passed_in, caller_in, history_next, history_from, action_events, events_from, events_of, CallersPlay, CallersApart, CallersExactly}
use Rattle.caller_claims.proofs.PortLaws.{caller_inside}
use Rattle.caller_claims.proofs.AcceptedLaws.{passes}
use Rattle.caller_claims.proofs.ReadyLaws.{ready, waits_sound, head_tag, granted_starts}

-- One action

-- the bank of a port with a history
abbrev at : Port → History → Course
at p h = record { bank = p.bank; history = h }

module _ (u : FunctionUnit) (C : ℕ) where
  -- a time unit that started a record, and one that started none
  module _ (p : Port) where
    abbrev answer : Answer
    answer = unit_at u C p.turn p.list p.counts

    begun : (w : Waiting) → passed_in u C p ≡ Ok (Some w) → event_answer u p.bank (Start (tag_of w)) ≡ Ok tt
    unfolding passed_at
    begun w e =
        let s = was_started p.bank answer (line_of p (caller_in C p)) w e in
        let a = passes u C p.turn p.list p.counts s.accepted in
        started_answered u s a.sound (a.tags (caller_in C p) (caller_inside C p (and_right (inside C 4) (inside p.turn C) a.caller)))

    idled : passed_in u C p ≡ Ok None → sound_of u ≡ true
    unfolding passed_at
    idled e = (passes u C p.turn p.list p.counts (was_idle p.bank answer (line_of p (caller_in C p)) e)).sound

  action_plays : (p : Port) (h : History) (d : Action) → played u (at p h) (action_events u C p d) ≡ at (done u C p d) (history_next u C p h d)
  unfolding done after unit_of history_next played
  action_plays p h (event e) = refl
  action_plays p h (call (arrival i w)) = refl
  action_plays p h (call unit) = unit_plays u (at p h) (passed_in u C p) (begun p) (idled p)

  actions_play : (actions : List Action) (p : Port) (h : History)
      → played u (at p h) (events_from u C p actions) ≡ at (done_all u C p actions) (history_from u C p h actions)
  unfolding done_all history_from events_from played
  actions_play [] p h = refl
  actions_play (d ∷ actions) p h =
      played_joined u (at p h) (action_events u C p d) (events_from u C (done u C p d) actions)
      ∙ ap (λ (c : Course). played u c (events_from u C (done u C p d) actions)) (action_plays p h d)
      ∙ actions_play actions (done u C p d) (history_next u C p h d)

-- The claims

pub callers_play : CallersPlay
callers_play u C turn list actions =
    let e = sym (actions_play u C actions (empty_port turn list) outset.history) in
    (ap (λ (c : Course). c.bank) e, ap (λ (c : Course). c.history) e)

pub callers_apart : CallersApart
callers_apart u C turn list actions =
    subst (λ (h : History). Apart (marked u) h.tasks) (sym (callers_play u C turn list actions).1) (all_apart u (events_of u C turn list actions))

-- the answer names the record that was started
abbrev record_told : Served → Waiting
record_told (Ok (Some start)) = start.1
record_told (Ok None) = no_record
record_told (Err why) = no_record

served_started : (c : ℕ) (a : Passed) (w : Waiting) → served_by c a ≡ Ok (Some (c, w)) → a ≡ Ok (Some w)
served_started c (Ok (Some v)) w e = ap (λ x. Ok (Some x)) (ap record_told e)
served_started c (Ok None) w e = let z : ◌≡◌ {A = ℕ} 0 1 = cc in absurd (omega arith)
served_started c (Err why) w e = let z : ◌≡◌ {A = ℕ} 0 1 = cc in absurd (omega arith)

pub callers_exactly : CallersExactly
unfolding unit_of passed_at
callers_exactly u C turn o list long actions w line e =
    let p = brought u C turn list actions in
    let c = caller_in C p in
    let sound = waits_sound u C turn list actions c w line e in
    let r = ready u sound C turn o list long actions in
    let plays = callers_play u C turn list actions in
    let x = grants_exactly u sound (events_of u C turn list actions) p.bank _ plays.0 plays.1 w (head_tag u sound C p r w line e) in (
      λ s. x.0 (was_started p.bank (unit_at u C p.turn p.list p.counts) (line_of p c) w (served_started c (passed_in u C p) w s)).granted,
      λ f. ap (served_by c) (granted_starts u sound C p r w line e (x.1 f)).passed,
    )
