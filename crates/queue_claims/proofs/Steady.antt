-- From empty on, a call is refused for the unit, the list and the tag offered, and where 32 wait, and for nothing else. Assumes nothing.
use Rattle.std.proofs.Common.{Ok, Err, Some, None}
use Prim.Native.Nat.{ℕ, suc, ◌≤◌}
use mathlib.Core.Path.{◌≡◌, refl, ap, ◌∙◌, sym, subst}
use mathlib.Core.Bool.{true}
use mathlib.Core.List.{List, [], ◌∷◌}
use native.Mathlib.Omega.{arith}
use lib.Dec.{leb, ltb}
use lib.ListN.{length, take, length-set, length-take}
use borrow.Author.Tests.{le-leb}
use Rattle.unit.specs.declared.FunctionUnit.{FunctionUnit}
use Rattle.unit.specs.declared.Refusal.TheVariants.{NotSound, NoSuchTag, ShortOutput, TooManyWait}
use Rattle.unit.specs.Answers.{Answer}
use Rattle.unit.specs.Unit.{inside, sound_of}
use Rattle.unit.specs.Calls.{check}
use Rattle.queue.specs.declared.Waiting.{Waiting}
use Rattle.queue.specs.Passed.{Passed}
use Rattle.queue.specs.Line.{tags_inside}
use Rattle.queue.specs.Calls.{room, arrival_answer, count_then, list_then, arrival_of, arrival_list, unit_answer, passed_of, fewer, list_after, pass_of, pass_list}
use Rattle.queue.proofs.LineLaws.{tags_rest, tags_joined, set_line, forward_length, forward_line}
use Rattle.queue_claims.specs.Runs.{Port, Action, after, done, done_all, empty_port}
use Rattle.queue_claims.specs.Runs.Call.{arrival, unit}
use Rattle.queue_claims.specs.Runs.Action.{event, call}
use Rattle.queue_claims.specs.Claims.{StaysSteady}
use Rattle.queue.proofs.AcceptedLaws.{arrival_accepted, unit_accepted, unit_answered}
use Rattle.queue_claims.proofs.PassLaws.{was_started}

-- what a list and a count keep: nothing waits that the unit does not have, nor where it is not sound or the list too short
pub record Held (u : FunctionUnit) (list : List Waiting) (count : ℕ) : Type 0 where
  pub sound : 1 ≤ count → sound_of u ≡ true
  pub long : 1 ≤ count → room ≤ length list
  pub few : count ≤ room
  pub tags : tags_inside u.functions (take count list) ≡ true

module _ (u : FunctionUnit) where
  held_empty : (list : List Waiting) → Held u list 0
  unfolding tags_inside
  held_empty list = record { sound = λ h. absurd (omega arith); long = λ h. absurd (omega arith); few = omega arith; tags = refl }

  held_arrival : (p : Port) (w : Waiting) → Held u p.list p.count → Held u (after u p (arrival w)).list (after u p (arrival w)).count
  unfolding after arrival_of arrival_list
  held_arrival p w h = go (arrival_answer room u p.list p.count w) refl
    where
      go : (a : Answer) → arrival_answer room u p.list p.count w ≡ a → Held u (list_then a p.list p.count w) (count_then a p.count)
      go (Err why) e = h
      go (Ok _) e =
          let a = arrival_accepted room u p.list p.count w e in
          record {
            sound = λ l. a.sound;
            long = λ l. omega (arith, length-set p.list p.count w, a.long);
            few = omega (arith, a.few);
            tags = subst (λ (l : List Waiting). tags_inside u.functions l ≡ true) (sym (set_line p.list p.count w (omega (arith, a.few, a.long))))
                (tags_joined u (take p.count p.list) w a.tags a.tag);
          }

  held_unit : (p : Port) → Held u p.list p.count → Held u (after u p unit).list (after u p unit).count
  unfolding after passed_of pass_of pass_list
  held_unit p h = go (passed_of room u p.bank p.list p.count) refl
    where
      go : (a : Passed) → passed_of room u p.bank p.list p.count ≡ a → Held u (list_after a p.list p.count) (fewer a p.count)
      go (Err why) e = h
      go (Ok None) e = h
      go (Ok (Some w)) e =
          let s = was_started p.bank (unit_answer room u p.list p.count) (take p.count p.list) w e in
          let a = unit_accepted room u p.list p.count s.accepted in
          let l : p.count ≤ length p.list = omega (arith, a.few, a.long) in
          let n : suc (length s.rest) ≡ p.count = sym (ap length s.first) ∙ omega (arith, length-take p.count p.list) in
          record {
            sound = λ x. a.sound;
            long = λ x. omega (arith, a.long, forward_length p.list p.count l (omega arith));
            few = omega (arith, a.few);
            tags = subst (λ (x : List Waiting). tags_inside u.functions x ≡ true) (sym (forward_line p.list p.count w s.rest l s.first))
                (tags_rest u w s.rest (subst (λ (x : List Waiting). tags_inside u.functions x ≡ true) s.first a.tags));
          }

  held_done : (p : Port) (d : Action) → Held u p.list p.count → Held u (done u p d).list (done u p d).count
  unfolding done
  held_done p (event e) h = h
  held_done p (call (arrival w)) h = held_arrival p w h
  held_done p (call unit) h = held_unit p h

  held_all : (actions : List Action) (p : Port) → Held u p.list p.count → Held u (done_all u p actions).list (done_all u p actions).count
  unfolding done_all
  held_all [] p h = h
  held_all (d ∷ actions) p h = held_all actions (done u p d) (held_done p d h)

  pub held : (list : List Waiting) (actions : List Action) → Held u (done_all u (empty_port list) actions).list (done_all u (empty_port list) actions).count
  held list actions = held_all actions (empty_port list) (held_empty list)

  -- so that the tests of the count and of the tags that wait always pass

  units : (list : List Waiting) (count : ℕ) → Held u list count
      → unit_answer room u list count ≡ check (sound_of u) NotSound (check (leb room (length list)) ShortOutput (Ok tt))
  unfolding unit_answer
  units list count h = simp (le-leb count room h.few, h.tags)

  arrivals : (list : List Waiting) (count : ℕ) (w : Waiting) → Held u list count
      → arrival_answer room u list count w
      ≡ check (sound_of u) NotSound
      (check (leb room (length list)) ShortOutput (check (inside w.tag u.functions) NoSuchTag (check (ltb count room) TooManyWait (Ok tt))))
  unfolding arrival_answer
  arrivals list count w h = simp h.tags

  -- and a time unit is accepted where something waits
  pub waits_accepted : (list : List Waiting) (count : ℕ) → Held u list count → 1 ≤ count → unit_answer room u list count ≡ Ok tt
  waits_accepted list count h l = unit_answered room u list count (h.sound l) (h.long l) h.few h.tags

pub stays_steady : StaysSteady
stays_steady u list actions =
    let p = done_all u (empty_port list) actions in
    let h = held u list actions in
    record { units = units u p.list p.count h; arrivals = λ w. arrivals u p.list p.count w h }
