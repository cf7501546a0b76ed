-- What a step answers and leaves, case by case. Assumes nothing.
use Rattle.std.proofs.Common.{Ok, Err}
use Prim.Native.Nat.{ℕ, ◌≤◌, ◌<◌}
use mathlib.Core.Path.{◌≡◌, refl, sym, ap, ◌∙◌}
use mathlib.Core.Bool.{Bool, true, false, cond, not, ◌&&◌, ◌||◌}
use native.Mathlib.Omega.{arith}
use borrow.Author.Tests.{ltb-true, lt-ltb, le-ltb}
use lib.Dec.{ltb}
use Rattle.words.proofs.Tests.{and_left, and_right}
use Rattle.unit.specs.declared.Plan.{Plan}
use Rattle.unit.specs.declared.FunctionUnit.{FunctionUnit}
use Rattle.unit.specs.declared.Refusal.{Refusal}
use Rattle.unit.specs.declared.Refusal.TheVariants.{NotSound, NoSuchTag, BadRecord, NotGranted}
use Rattle.unit.specs.Answers.{Answer}
use Rattle.unit.specs.Unit.{inside, sound_of}
use Rattle.unit.specs.Calls.{check, and_then, tag_answer}
use Rattle.unit.proofs.Laws.{check_ok, tag_accepted}
use Rattle.unit.proofs.EndLaws.{then_both}
use Rattle.controller.specs.declared.Bank.{Bank}
use Rattle.controller.specs.declared.Event.{Event}
use Rattle.controller.specs.declared.Event.TheVariants.{Tick, Start}
use Rattle.controller.specs.declared.Stepped.{Stepped}
use Rattle.controller.specs.Bank.{granted, event_answer, moved, bank_then, step_of}
use Rattle.collision.specs.Pipeline.{total}
use Rattle.plan_record.specs.Record.{starts}
use Rattle.plan_record.specs.Write.{cycle_in, holds_cycle}
use Rattle.plan_record.proofs.RingLaws.{ring_bit_lem}
use Rattle.plan_record.proofs.PlanLaws.{held}
use Rattle.simulator.specs.declared.UnitPlayed.{UnitPlayed}
use Rattle.simulator.specs.Step.{tag_of, bit_of, event_of, step_answer, position_after, stopped, playing, play_of}
use Rattle.simulator.specs.Inner.{is_start, OnRing, Playable, ring_answer}

-- The event

pub bit_starts : (p : Plan) (i : ℕ) → OnRing p i → bit_of p i ≡ not (starts (cycle_in p) i)
bit_starts p i r =
    let h = (held p r.holds).holds in
    let b : i < total (cycle_in p) = omega (arith, r.before, h.sum) in
    ring_bit_lem (cycle_in p) i (omega arith)

pub event_start : (p : Plan) (i : ℕ) → OnRing p i → starts (cycle_in p) i ≡ true → Start (tag_of p) ≡ event_of p i
event_start p i r e = sym (ap (λ b. cond b Tick (Start (tag_of p))) (bit_starts p i r ∙ ap not e))

pub event_tick : (p : Plan) (i : ℕ) → OnRing p i → starts (cycle_in p) i ≡ false → Tick ≡ event_of p i
event_tick p i r e = sym (ap (λ b. cond b Tick (Start (tag_of p))) (bit_starts p i r ∙ ap not e))

start_bit : (p : Plan) (b : Bool) → is_start (cond b Tick (Start (tag_of p))) ≡ not b
start_bit p true = refl
start_bit p false = refl

-- A step on the ring: the bank's answer is the step's

pub ring_answer_lem : (u : FunctionUnit) (p : Plan) (i : ℕ) (b : Bank) → Playable u p i → event_answer u b (event_of p i) ≡ step_answer u p i b
unfolding step_answer event_answer
ring_answer_lem u p i b r = go (bit_of p i)
  where
    go : (bit : Bool) → event_answer u b (cond bit Tick (Start (tag_of p)))
        ≡ check (sound_of u) NotSound (check (inside p.tag u.functions) NoSuchTag
        (check (holds_cycle p && ltb i p.sum) BadRecord (check (bit || granted b p.tag) NotGranted (Ok tt))))
    go bit =
        let a = tag_accepted u p.tag r.tag in
        rw (a.tag, r.ring.holds, lt-ltb i p.sum r.ring.before) (by bit)
      where
        by : (bit : Bool) → event_answer u b (cond bit Tick (Start (tag_of p))) ≡ check (sound_of u) NotSound (check (bit || granted b p.tag) NotGranted (Ok tt))
        by true = refl
        by false = rw (tag_accepted u p.tag r.tag).tag refl

module _ (u : FunctionUnit) (p : Plan) (i : ℕ) (b : Bank) (r : Playable u p i) (e : Event) (same : e ≡ event_of p i) (s : Stepped) (stepped : s ≡ step_of u b e) where
  answered : s.answer ≡ step_answer u p i b
  unfolding step_of
  answered = ap (λ (x : Stepped). x.answer) stepped ∙ ap (event_answer u b) same ∙ ring_answer_lem u p i b r

  pub ring_refused : (why : Refusal) → s.answer ≡ Err why → stopped why i b ≡ play_of u p i b
  unfolding play_of
  ring_refused why a = sym (ap (λ (x : Answer). playing x u p i b) (sym answered ∙ a))

  pub ring_played : (started : Bool) (next : ℕ) → s.answer ≡ Ok tt → started ≡ is_start e → next ≡ position_after p i
      → ◌≡◌ {A = UnitPlayed} (record { answer = (Ok tt); started = started; position = next; bank = s.bank }) (play_of u p i b)
  unfolding play_of step_of
  ring_played started next a st n =
      let done : event_answer u b e ≡ Ok tt = ap (event_answer u b) same ∙ ring_answer_lem u p i b r ∙ sym answered ∙ a in
      let bank : s.bank ≡ moved u b (event_of p i) =
      ap (λ (x : Stepped). x.bank) stepped ∙ ap (λ (x : Answer). bank_then x b (moved u b e)) done ∙ ap (moved u b) same in
      let bit : started ≡ not (bit_of p i) = st ∙ ap is_start same ∙ start_bit p (bit_of p i) in
      (λ k. record { answer = (Ok tt); started = bit k; position = n k; bank = bank k })
      ∙ sym (ap (λ (x : Answer). playing x u p i b) (sym answered ∙ a))

-- A step that is refused before, by unit, tag, plan or position

pub ring_not : (p : Plan) (i : ℕ) → holds_cycle p ≡ false → Err BadRecord ≡ ring_answer p i
ring_not p i e = rw e

pub ring_beyond : (p : Plan) (i : ℕ) → holds_cycle p ≡ true → p.sum ≤ i → Err BadRecord ≡ ring_answer p i
ring_beyond p i e h = rw (e, le-ltb i p.sum h)

pub ring_done : (p : Plan) (i : ℕ) → holds_cycle p ≡ true → i < p.sum → (Ok tt) ≡ ring_answer p i
ring_done p i e h = rw (e, lt-ltb i p.sum h)

module _ (u : FunctionUnit) (p : Plan) (i : ℕ) (b : Bank) where
  -- a step tests those first
  ready_first : step_answer u p i b ≡ and_then (and_then (tag_answer u p.tag) (ring_answer p i)) (check (bit_of p i || granted b p.tag) NotGranted (Ok tt))
  unfolding step_answer tag_answer
  ready_first = go (sound_of u) (inside p.tag u.functions) (holds_cycle p && ltb i p.sum)
    where
      go : (s m r : Bool) → check s NotSound (check m NoSuchTag (check r BadRecord (check (bit_of p i || granted b p.tag) NotGranted (Ok tt))))
          ≡ and_then (and_then (check s NotSound (check m NoSuchTag (Ok tt))) (check r BadRecord (Ok tt))) (check (bit_of p i || granted b p.tag) NotGranted (Ok tt))
      go true true true = refl
      go true true false = refl
      go true false r = refl
      go false m r = refl

  pub step_refused : (why : Refusal) → and_then (tag_answer u p.tag) (ring_answer p i) ≡ Err why → stopped why i b ≡ play_of u p i b
  unfolding play_of
  step_refused why e =
      sym (ap (λ (x : Answer). playing x u p i b)
      (ready_first ∙ ap (λ (x : Answer). and_then x (check (bit_of p i || granted b p.tag) NotGranted (Ok tt))) e))

  pub step_ready : and_then (tag_answer u p.tag) (ring_answer p i) ≡ Ok tt → Playable u p i
  step_ready e =
      let both = then_both (tag_answer u p.tag) (ring_answer p i) e in
      let ring = check_ok (holds_cycle p && ltb i p.sum) BadRecord (Ok tt) both.1 in
      record {
        tag = both.0;
        ring = record { holds = and_left (holds_cycle p) _ ring; before = ltb-true i p.sum (and_right (holds_cycle p) _ ring) };
      }
