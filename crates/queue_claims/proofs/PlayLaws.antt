-- A time unit is one of the controller's events, so that its theorems hold of the tasks that time units start. Assumes nothing.
use Rattle.std.proofs.Common.{Ok, Err, Some, None}
use mathlib.Core.Path.{◌≡◌, refl, ap, ◌∙◌, sym, subst}
use mathlib.Core.Bool.{true, false}
use mathlib.Core.Logic.{◌↔◌}
use mathlib.Core.List.{List, [], ◌∷◌, ◌++◌}
use Rattle.words.proofs.Tests.{by_test}
use Rattle.unit.specs.declared.FunctionUnit.{FunctionUnit}
use Rattle.unit.specs.Answers.{Answer}
use Rattle.unit.specs.Unit.{inside, marked, sound_of}
use Rattle.controller.specs.declared.Bank.{Bank}
use Rattle.controller.specs.declared.Event.{Event}
use Rattle.controller.specs.declared.Event.TheVariants.{Tick, Start}
use Rattle.controller.specs.Bank.{granted, event_answer, step_of}
use Rattle.controller.specs.History.{History, Course, accepted, history_then, task_now, outset, next, played, bank_after, history_after, Free, Apart}
use Rattle.controller.proofs.StepLaws.{start_answered, start_accepted}
use Rattle.controller.proofs.TickLaws.{tick_answered}
use Rattle.controller.proofs.Demand2.{granted_exactly, granted_apart}
use Rattle.queue.specs.declared.Waiting.{Waiting}
use Rattle.queue.specs.Passed.{Passed}
use Rattle.queue.specs.Line.{tag_of, tags_inside}
use Rattle.queue.specs.Calls.{bank_then}
use Rattle.queue.proofs.LineLaws.{tags_first}
use Rattle.queue_claims.specs.Tasks.{unit_then, unit_events}
use Rattle.queue_claims.proofs.PassLaws.{Started}

pub played_joined : (u : FunctionUnit) (c : Course) (one two : List Event) → played u c (one ++ two) ≡ played u (played u c one) two
unfolding played
played_joined u c [] two = refl
played_joined u c (e ∷ one) two = played_joined u (next u c e) one two

-- an accepted event goes into the history
accepted_next : (u : FunctionUnit) (c : Course) (e : Event) → event_answer u c.bank e ≡ Ok tt
    → next u c e ≡ record { bank = (step_of u c.bank e).bank; history = accepted c.history e }
unfolding step_of
accepted_next u c e a = ap (λ (x : Answer). record { bank = (step_of u c.bank e).bank; history = history_then x c.history e }) a

-- a record that was started is the controller's granted start
pub started_answered : (u : FunctionUnit) {b : Bank} {answer : Answer} {line : List Waiting} {w : Waiting} → Started b answer line w → sound_of u ≡ true
    → tags_inside u.functions line ≡ true → event_answer u b (Start (tag_of w)) ≡ Ok tt
started_answered u {b} {answer} {line} {w} s sound tags =
    start_answered u b (tag_of w) sound (tags_first u w s.rest (ap (tags_inside u.functions) (sym s.first) ∙ tags)) s.granted

-- a time unit, by what was done in it, is the controller's start, its tick, or no event
pub unit_plays : (u : FunctionUnit) (c : Course) (a : Passed) → ((w : Waiting) → a ≡ Ok (Some w) → event_answer u c.bank (Start (tag_of w)) ≡ Ok tt)
    → (a ≡ Ok None → sound_of u ≡ true) → played u c (unit_events a) ≡ record { bank = bank_then u a c.bank; history = unit_then a c.history }
unfolding played
unit_plays u c (Ok (Some w)) s i = accepted_next u c (Start (tag_of w)) (s w refl)
unit_plays u c (Ok None) s i = accepted_next u c Tick (tick_answered u (i refl) c.bank)
unit_plays u c (Err why) s i = refl

-- A unit that is not sound: every event is refused

refused_next : (u : FunctionUnit) (c : Course) (e : Event) → sound_of u ≡ false → next u c e ≡ c
unfolding step_of event_answer
refused_next u c Tick f = simp f
refused_next u c (Start q) f = simp f

unsound_played : (u : FunctionUnit) → sound_of u ≡ false → (events : List Event) (c : Course) → played u c events ≡ c
unfolding played
unsound_played u f [] c = refl
unsound_played u f (e ∷ events) c = unsound_played u f events (next u c e) ∙ refused_next u c e f

-- What the controller's theorems say

pub all_apart : (u : FunctionUnit) (events : List Event) → Apart (marked u) (history_after u events).tasks
all_apart u events = by_test (sound_of u)
    (λ t. granted_apart u t events)
    (λ f. subst (λ (c : Course). Apart (marked u) c.history.tasks) (sym (unsound_played u f events outset)) tt)

-- the bank and the history of a list of events: what the bank grants is what would collide with none of the tasks
pub grants_exactly : (u : FunctionUnit) → sound_of u ≡ true → (events : List Event) (b : Bank) (h : History) → b ≡ bank_after u events
    → h ≡ history_after u events → (w : Waiting) → inside w.tag u.functions ≡ true
    → (granted b w.tag ≡ true) ↔ Free (marked u) (task_now h w.tag) h.tasks
grants_exactly u sound events b h eb eh w i =
    let x = granted_exactly u sound events (tag_of w) i in (
      λ g. subst (λ (k : History). Free (marked u) (task_now k w.tag) k.tasks) (sym eh)
          (x.0 (start_answered u (bank_after u events) (tag_of w) sound i (ap (λ (c : Bank). granted c w.tag) (sym eb) ∙ g))),
      λ f. ap (λ (c : Bank). granted c w.tag) eb
          ∙ (start_accepted u (bank_after u events) (tag_of w) (x.1 (subst (λ (k : History). Free (marked u) (task_now k w.tag) k.tasks) eh f))).granted,
    )
