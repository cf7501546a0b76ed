-- The queue's actions are the controller's events, so that its theorems hold of the tasks that the queue starts. Assumes nothing.
use Rattle.std.proofs.Common.{Ok, Some}
use Prim.Native.Nat.{suc, ◌≤◌}
use mathlib.Core.Path.{◌≡◌, refl, ap, ◌∙◌, sym, subst}
use mathlib.Core.List.{List, [], ◌∷◌}
use native.Mathlib.Omega.{arith}
use lib.ListN.{length, take, length-take}
use Rattle.unit.specs.declared.FunctionUnit.{FunctionUnit}
use Rattle.unit.specs.Answers.{Answer}
use Rattle.unit.specs.Unit.{marked}
use Rattle.controller.specs.declared.Event.TheVariants.{Start}
use Rattle.controller.specs.Bank.{granted, event_answer}
use Rattle.controller.specs.History.{History, Course, accepted, outset, played, Apart}
use Rattle.queue.specs.declared.Waiting.{Waiting}
use Rattle.queue.specs.Passed.{Passed}
use Rattle.queue.specs.Line.{tag_of, tags_inside}
use Rattle.queue.specs.Calls.{room, unit_answer, oldest, passed_then, passed_of, pass_of}
use Rattle.queue_claims.specs.Runs.{Port, Action, after, done, done_all, empty_port}
use Rattle.queue_claims.specs.Runs.Call.{arrival, unit}
use Rattle.queue_claims.specs.Runs.Action.{event, call}
use Rattle.queue_claims.specs.Tasks.{history_next, history_from, action_events, events_from, events_of, QueuePlays, QueueApart, QueueExactly}
use Rattle.queue.proofs.LineLaws.{tags_first}
use Rattle.queue_claims.proofs.PassLaws.{was_started, was_idle, granted_started}
use Rattle.queue_claims.proofs.PlayLaws.{played_joined, started_answered, unit_plays, all_apart, grants_exactly}
use Rattle.queue.proofs.AcceptedLaws.{UnitAccepted, unit_accepted}
use Rattle.queue_claims.proofs.Steady.{held, waits_accepted}

-- One action

-- the bank of a port with a history
abbrev at : Port → History → Course
at p h = record { bank = p.bank; history = h }

module _ (u : FunctionUnit) where
  call_plays : (p : Port) (h : History) → played u (at p h) (action_events u p (call unit)) ≡ at (done u p (call unit)) (history_next u p h (call unit))
  unfolding done after pass_of passed_of history_next
  call_plays p h = unit_plays u (at p h) (passed_of room u p.bank p.list p.count) begun (λ e. (accepts (was_idle p.bank answer line e)).sound)
    where
      answer : Answer
      answer = unit_answer room u p.list p.count

      line : List Waiting
      line = take p.count p.list

      accepts : answer ≡ Ok tt → UnitAccepted room u (length p.list) p.count (tags_inside u.functions line)
      accepts e = unit_accepted room u p.list p.count e

      begun : (w : Waiting) → passed_then answer (oldest p.bank line) ≡ Ok (Some w) → event_answer u p.bank (Start (tag_of w)) ≡ Ok tt
      begun w e = let s = was_started p.bank answer line w e in started_answered u s (accepts s.accepted).sound (accepts s.accepted).tags

  action_plays : (p : Port) (h : History) (d : Action) → played u (at p h) (action_events u p d) ≡ at (done u p d) (history_next u p h d)
  unfolding done after history_next played
  action_plays p h (event e) = refl
  action_plays p h (call (arrival w)) = refl
  action_plays p h (call unit) = call_plays p h

  actions_play : (actions : List Action) (p : Port) (h : History) → played u (at p h) (events_from u p actions) ≡ at (done_all u p actions) (history_from u p h actions)
  unfolding done_all history_from events_from played
  actions_play [] p h = refl
  actions_play (d ∷ actions) p h =
      played_joined u (at p h) (action_events u p d) (events_from u (done u p d) actions)
      ∙ ap (λ (c : Course). played u c (events_from u (done u p d) actions)) (action_plays p h d)
      ∙ actions_play actions (done u p d) (history_next u p h d)

-- The claims

pub queue_plays : QueuePlays
queue_plays u list actions =
    let e = sym (actions_play u actions (empty_port list) outset.history) in
    (ap (λ (c : Course). c.bank) e, ap (λ (c : Course). c.history) e)

pub queue_apart : QueueApart
queue_apart u list actions =
    subst (λ (h : History). Apart (marked u) h.tasks) (sym (queue_plays u list actions).1) (all_apart u (events_of u list actions))

pub queue_exactly : QueueExactly
unfolding passed_of
queue_exactly u list actions w line e =
    let p = done_all u (empty_port list) actions in
    let d = held u list actions in
    let m : length (take p.count p.list) ≡ suc (length line) = ap length e in
    let some : 1 ≤ p.count = omega (arith, length-take p.count p.list) in
    let t = tags_first u w line (ap (tags_inside u.functions) (sym e) ∙ d.tags) in
    let x = grants_exactly u (d.sound some) (events_of u list actions) p.bank _ (queue_plays u list actions).0 (queue_plays u list actions).1 w t in
    let a = waits_accepted u p.list p.count d some in (
      λ s. x.0 (was_started p.bank (unit_answer room u p.list p.count) (take p.count p.list) w s).granted,
      λ f. granted_started p.bank (unit_answer room u p.list p.count) (take p.count p.list) w line a e (x.1 f),
    )
