-- What a call leaves at a port whose records are those of a line. Assumes nothing.
use Rattle.std.proofs.Common.{Ok, Err, Some, None}
use Prim.Native.Nat.{suc, ◌+◌, ◌-◌, ◌≤◌}
use mathlib.Core.Path.{◌≡◌, refl, ap, ◌∙◌, sym, subst}
use mathlib.Core.Bool.{true, false, cond}
use mathlib.Core.Logic.{◌⊎◌, inl, inr}
use mathlib.Core.List.{List, [], ◌∷◌, ◌++◌}
use native.Mathlib.Omega.{arith}
use lib.ListN.{length, take, length-set, length-take}
use Rattle.unit.specs.declared.FunctionUnit.{FunctionUnit}
use Rattle.unit.specs.Answers.{Answer}
use Rattle.unit.specs.Unit.{inside, marked, sound_of}
use Rattle.collision.specs.Vector.{largest_column}
use Rattle.controller.specs.declared.Bank.{Bank}
use Rattle.controller.specs.declared.Event.TheVariants.{Tick, Start}
use Rattle.controller.specs.declared.Stepped.{Stepped}
use Rattle.controller.specs.Bank.{shifted, started, granted, moved, step_of}
use Rattle.controller.proofs.StepLaws.{step_done, start_answered}
use Rattle.controller.proofs.TickLaws.{tick_shifts, shifted_below, step_below}
use Rattle.queue.specs.declared.Waiting.{Waiting}
use Rattle.queue.specs.Passed.{Passed}
use Rattle.queue.specs.Line.{tag_of, tags_inside}
use Rattle.queue.specs.Calls.{room, arrival_answer, count_then, list_then, arrival_of, arrival_list, oldest, passed_then, passed_of, bank_then, fewer, list_after, pass_of, pass_list}
use Rattle.queue_claims.specs.Runs.{Port, after}
use Rattle.queue_claims.specs.Runs.Call.{arrival, unit}
use Rattle.queue_claims.proofs.DelayLaws.{Low, low_started}
use Rattle.queue.proofs.AcceptedLaws.{arrival_accepted, unit_answered}
use Rattle.queue.proofs.LineLaws.{tags_first, tags_rest, tags_joined, set_line, forward_length, forward_line}

-- The bank, given by the controller

pub bank_start : (u : FunctionUnit) (b : Bank) (w : Waiting) → sound_of u ≡ true → inside w.tag u.functions ≡ true → granted b w.tag ≡ true
    → (step_of u b (Start (tag_of w))).bank ≡ started u w.tag b
unfolding moved
bank_start u b w sound i g =
    ap (λ (s : Stepped). s.bank) (sym (step_done u b (Start (tag_of w)) (start_answered u b (tag_of w) sound i g)))

-- A port at which every time unit is accepted, and the records that wait there
pub record Ready (u : FunctionUnit) (p : Port) (line : List Waiting) : Type 0 where
  pub low : Low u p.bank
  pub long : room ≤ length p.list
  pub few : p.count ≤ room
  pub waits : take p.count p.list ≡ line
  pub tags : tags_inside u.functions line ≡ true

pub ready_count : {u : FunctionUnit} {p : Port} {line : List Waiting} → Ready u p line → length line ≡ p.count
ready_count {u} {p} {line} r = sym (ap length r.waits) ∙ omega (arith, length-take p.count p.list, r.long, r.few)

-- Arrivals

pub arrival_port : (u : FunctionUnit) (p : Port) (w : Waiting) (a : Answer) → arrival_answer room u p.list p.count w ≡ a
    → after u p (arrival w) ≡ record { bank = p.bank; list = list_then a p.list p.count w; count = count_then a p.count }
unfolding after arrival_of arrival_list
arrival_port u p w a e = ap (λ (a : Answer). record { bank = p.bank; list = list_then a p.list p.count w; count = count_then a p.count }) e

pub ready_joined : (u : FunctionUnit) (p : Port) (w : Waiting) → Low u p.bank → arrival_answer room u p.list p.count w ≡ Ok tt
    → Ready u (after u p (arrival w)) (take p.count p.list ++ w ∷ [])
ready_joined u p w low e =
    let a = arrival_accepted room u p.list p.count w e in
    subst (λ (q : Port). Ready u q (take p.count p.list ++ w ∷ [])) (sym (arrival_port u p w (Ok tt) e))
    (record {
      low = low;
      long = omega (arith, length-set p.list p.count w, a.long);
      few = omega (arith, a.few);
      waits = set_line p.list p.count w (omega (arith, a.few, a.long));
      tags = tags_joined u (take p.count p.list) w a.tags a.tag;
    })

pub ready_arrival : (u : FunctionUnit) (p : Port) (line : List Waiting) (w : Waiting) → Ready u p line
    → Ready u (after u p (arrival w)) line ⊎ Ready u (after u p (arrival w)) (line ++ w ∷ [])
ready_arrival u p line w r = go (arrival_answer room u p.list p.count w) refl
  where
    go : (a : Answer) → arrival_answer room u p.list p.count w ≡ a
        → Ready u (after u p (arrival w)) line ⊎ Ready u (after u p (arrival w)) (line ++ w ∷ [])
    go (Ok _) e = inr (subst (λ (l : List Waiting). Ready u (after u p (arrival w)) (l ++ w ∷ [])) r.waits (ready_joined u p w r.low e))
    go (Err why) e = inl (subst (λ (q : Port). Ready u q line) (sym (arrival_port u p w (Err why) e)) r)

pub arrival_bank : (u : FunctionUnit) (p : Port) (w : Waiting) → (after u p (arrival w)).bank ≡ p.bank
unfolding after
arrival_bank u p w = refl

-- Time units

unit_port : (u : FunctionUnit) (p : Port) (a : Passed) → passed_of room u p.bank p.list p.count ≡ a
    → after u p unit ≡ record { bank = bank_then u a p.bank; list = list_after a p.list p.count; count = fewer a p.count }
unfolding after pass_of pass_list
unit_port u p a e =
    ap (λ (a : Passed). record { bank = bank_then u a p.bank; list = list_after a p.list p.count; count = fewer a p.count }) e

module _ (u : FunctionUnit) (sound : sound_of u ≡ true) (p : Port) where
  passed_oldest : (line : List Waiting) → Ready u p line → passed_of room u p.bank p.list p.count ≡ oldest p.bank line
  unfolding passed_of
  passed_oldest line r =
      let t : tags_inside u.functions (take p.count p.list) ≡ true = ap (tags_inside u.functions) r.waits ∙ r.tags in
      ap (λ (a : Answer). passed_then a (oldest p.bank (take p.count p.list))) (unit_answered room u p.list p.count sound r.long r.few t)
      ∙ ap (oldest p.bank) r.waits

  -- what a time unit does where nothing waits, where the oldest is granted, and where it is not

  pub record Does (a : Passed) (b : Bank) (line : List Waiting) : Type 0 where
    pub passed : passed_of room u p.bank p.list p.count ≡ a
    pub bank : (after u p unit).bank ≡ b
    pub ready : Ready u (after u p unit) line

  ticks_on : (line : List Waiting) → Ready u p line → passed_of room u p.bank p.list p.count ≡ Ok None
      → Does (Ok None) (shifted p.bank) line
  ticks_on line r e =
      let t = tick_shifts u sound p.bank in
      record {
        passed = e;
        bank = ap (λ (q : Port). q.bank) (unit_port u p (Ok None) e) ∙ t;
        ready = subst (λ (q : Port). Ready u q line) (sym (unit_port u p (Ok None) e))
            (record {
              low = subst (Low u) (sym t) (shifted_below (largest_column (marked u)) p.bank r.low);
              long = r.long;
              few = r.few;
              waits = r.waits;
              tags = r.tags;
            });
      }

  module _ (w : Waiting) (line : List Waiting) (r : Ready u p (w ∷ line)) where
    tag_there : inside w.tag u.functions ≡ true
    tag_there = tags_first u w line r.tags

    pub unit_waits : granted p.bank w.tag ≡ false → Does (Ok None) (shifted p.bank) (w ∷ line)
    unfolding oldest
    unit_waits g = ticks_on (w ∷ line) r (passed_oldest (w ∷ line) r ∙ ap (λ ok. cond ok (Ok (Some w)) (Ok None)) g)

    pub unit_starts : granted p.bank w.tag ≡ true → Does (Ok (Some w)) (started u w.tag p.bank) line
    unfolding oldest
    unit_starts g =
        let e : passed_of room u p.bank p.list p.count ≡ Ok (Some w) =
        passed_oldest (w ∷ line) r ∙ ap (λ ok. cond ok (Ok (Some w)) (Ok None)) g in
        let s = bank_start u p.bank w sound tag_there g in
        let n : suc (length line) ≡ p.count = ready_count r in
        record {
          passed = e;
          bank = ap (λ (q : Port). q.bank) (unit_port u p (Ok (Some w)) e) ∙ s;
          ready = subst (λ (q : Port). Ready u q line) (sym (unit_port u p (Ok (Some w)) e))
              (record {
                low = subst (Low u) (sym s) (low_started u w.tag p.bank sound tag_there r.low);
                long = omega (arith, r.long, r.few, forward_length p.list p.count (omega (arith, r.long, r.few)) (omega arith));
                few = omega (arith, r.few);
                waits = forward_line p.list p.count w line (omega (arith, r.long, r.few)) r.waits;
                tags = tags_rest u w line r.tags;
              });
        }

-- a call keeps the registers low, at any port

pub arrival_low : (u : FunctionUnit) (p : Port) (w : Waiting) → Low u p.bank → Low u (after u p (arrival w)).bank
arrival_low u p w low = subst (Low u) (sym (arrival_bank u p w)) low

pub unit_low : (u : FunctionUnit) → sound_of u ≡ true → (p : Port) → Low u p.bank → Low u (after u p unit).bank
unfolding after pass_of
unit_low u sound p low = go (passed_of room u p.bank p.list p.count)
  where
    go : (a : Passed) → Low u (bank_then u a p.bank)
    go (Ok (Some w)) = step_below u p.bank (Start (tag_of w)) sound low
    go (Ok None) = step_below u p.bank Tick sound low
    go (Err why) = low
