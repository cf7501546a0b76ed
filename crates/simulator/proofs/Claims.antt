-- Every plan that a read hands out plays on the unit, for as long as no edit is accepted. Assumes nothing.
use Rattle.std.proofs.Common.{Ok, Err}
use Prim.Native.Nat.{ℕ, ◌-◌}
use mathlib.Core.Path.{◌≡◌, refl, sym, ap, ap₂, ◌∙◌, subst, subst₂}
use mathlib.Core.Bool.{true, not}
use mathlib.Core.List.{List, [], ◌∷◌, ◌++◌}
use native.Mathlib.Omega.{arith}
use borrow.Author.Tests.{not-true, eqb-false}
use lib.Dec.{eqb}
use lib.ListN.{length, replicate, take-append-drop}
use lib.Seq.{length-take-le, take-append_seam}
use Rattle.unit.specs.declared.Plan.{Plan}
use Rattle.unit.specs.declared.FunctionUnit.{FunctionUnit}
use Rattle.unit.specs.declared.Outcome.{Outcome}
use Rattle.unit.specs.declared.Refusal.{Refusal}
use Rattle.unit.specs.declared.Refusal.TheVariants.{NotSound, NoPlan}
use Rattle.unit.specs.Answers.{Answer}
use Rattle.unit.specs.Table.{Table}
use Rattle.unit.specs.Unit.{inside, marked, sound_of}
use Rattle.unit.specs.Calls.{tag_answer, spot_answer}
use Rattle.unit.proofs.Laws.{check_ok, check_next, tag_accepted}
use Rattle.unit.proofs.EndLaws.{then_both}
use Rattle.unit.proofs.EditLaws.{mark_answer, unmark_answer, mark_refused, unmark_refused}
use Rattle.collision.specs.Pipeline.{NeverCollides}
use Rattle.planner.specs.Plans.{Best, plan_of, search_answer, Found, read_answer, read_of}
use Rattle.planner.specs.Sheet.{Call, Reply, reply_to, Step, Sheet, start, fed, Owed, Leaves, Noted}
use Rattle.planner.specs.Sheet.Call.{Mark, Unmark, Search, Read}
use Rattle.planner.specs.Sheet.Reply.{accepted}
use Rattle.planner.proofs.EveryList.{plan_marks, found_sound, every_unit}
use Rattle.planner.proofs.ReadLaws.{read_done}
use Rattle.plan_record.specs.Write.{cycle_in, holds_cycle}
use Rattle.plan_record.proofs.Claims.{holds_exactly}
use Rattle.function_plan.proofs.Claims.{best_recordable, planned}
use Rattle.simulator.specs.Claims.{Plays, NoEdit, EveryPlanPlays, EverySearchPlays}
use Rattle.simulator.proofs.PlayLaws.{never_plays}

-- The plan that is owed is one that a record holds

module _ (u : FunctionUnit) (t : Sheet) (n : Noted u t) (some : t.owed ≡ 0 → ⊥) where
  abbrev plan : Plan
  plan = u.plan

  owed : Owed t plan
  owed = n.plan some

  long : plan.count ≡ length (cycle_in plan)
  long = sym (length-take-le plan.count plan.latencies (omega (arith, owed.long, owed.few)))

  best : Best 1 (marked u) plan.tag (cycle_in plan)
  best = subst₂ (λ (T : Table) (q : ℕ). Best 1 T q (cycle_in plan)) (sym n.table) (sym n.tag) owed.best

  owed_holds : holds_cycle plan ≡ true
  owed_holds = (holds_exactly plan).1 (record {
    cycle = cycle_in plan;
    recordable = best_recordable u plan.tag (cycle_in plan) (omega (arith, long, owed.few)) best;
    holds = record {
      count = long;
      sum = owed.sum;
      latencies = sym (take-append-drop plan.count plan.latencies) ∙ ap (λ x. cycle_in plan ++ x) owed.rest
          ∙ ap (λ k. cycle_in plan ++ replicate (256 - k) 0) long;
    };
  })

-- What a read that hands out a plan says

read_gives : (u : FunctionUnit) (p : Plan) → read_of u ≡ Ok p → (u.plan ≡ p) × (u.plan.tag ≡ 0 → ⊥)
unfolding read_answer
read_gives u p e =
    let d = read_done u e in
    let held = check_ok (not (eqb u.plan.tag 0)) NoPlan (Ok tt) (check_next (sound_of u) NotSound _ d.0) in
    (d.1, eqb-false u.plan.tag 0 (not-true (eqb u.plan.tag 0) held))

-- Calls of which no edit is accepted

-- the same functions with the same marks
record SameMarks (u after : FunctionUnit) : Type 0 where
  pub functions : after.functions ≡ u.functions
  pub marks : marked after ≡ marked u
  pub sound : sound_of u ≡ true → sound_of after ≡ true

same_unit : (u after : FunctionUnit) → after ≡ u → SameMarks u after
same_unit u after e = record { functions = ap (λ (x : FunctionUnit). x.functions) e; marks = ap marked e; sound = λ s. ap sound_of e ∙ s }

same_then : {u v w : FunctionUnit} → SameMarks u v → SameMarks v w → SameMarks u w
same_then a b = record { functions = b.functions ∙ a.functions; marks = b.marks ∙ a.marks; sound = λ s. b.sound (a.sound s) }

found_same : (u : FunctionUnit) (q : ℕ) (after : FunctionUnit) → Found u q after → SameMarks u after
found_same u q after f = record {
  functions = ap (λ (x : FunctionUnit). x.functions) f.unit;
  marks = ap marked f.unit ∙ plan_marks u (plan_of q f.cycle);
  sound = λ s. found_sound u q after s f;
}

-- an edit that is not accepted leaves the unit
left_alone : (u after : FunctionUnit) (x : Answer) (a : Reply) → a ≡ reply_to x → (a ≡ accepted → ⊥) → ((why : Refusal) → x ≡ Err why → after ≡ u) → after ≡ u
left_alone u after (Ok _) a e n f = absurd (n e)
left_alone u after (Err why) a e n f = f why refl

step_same : (k : Call) (calls : List Call) (u : FunctionUnit) (a : Reply) (replies : List Reply) (after : FunctionUnit)
    → Step u k a after → NoEdit (k ∷ calls) (a ∷ replies) → SameMarks u after × NoEdit calls replies
step_same (Mark q s c) calls u a replies after (r, er, ea, eu) (n, rest) = (
  same_unit u after (left_alone u after (spot_answer u q s c) a
      (ea ∙ ap reply_to (ap (λ (o : Outcome). o.answer) er ∙ mark_answer u q s c)) n
      (λ why e. eu ∙ ap (λ (o : Outcome). o.unit) er ∙ mark_refused u q s c why e)),
  rest,
)
step_same (Unmark q s c) calls u a replies after (r, er, ea, eu) (n, rest) = (
  same_unit u after (left_alone u after (spot_answer u q s c) a
      (ea ∙ ap reply_to (ap (λ (o : Outcome). o.answer) er ∙ unmark_answer u q s c)) n
      (λ why e. eu ∙ ap (λ (o : Outcome). o.unit) er ∙ unmark_refused u q s c why e)),
  rest,
)
step_same (Search q room) calls u a replies after h rest = (go h.answer refl, rest)
  where
    go : (x : Answer) → h.answer ≡ x → SameMarks u after
    go (Ok _) e = found_same u q after (h.promise.found e)
    go (Err why) e = same_unit u after (h.promise.kept why e)
step_same Read calls u a replies after (r, er, ea, eu) rest = (same_unit u after eu, rest)

unedited : (calls : List Call) (replies : List Reply) (u left : FunctionUnit) → Leaves u calls replies left → NoEdit calls replies → SameMarks u left
unedited [] [] u left e n = same_unit u left e
unedited [] (a ∷ replies) u left run n = absurd run
unedited (k ∷ calls) [] u left run n = absurd run
unedited (k ∷ calls) (a ∷ replies) u left (after, one, run) n =
    let s = step_same k calls u a replies after one n in
    same_then s.0 (unedited calls replies after left run s.1)

-- The claims

-- a plan that plays on a unit plays on every one with the same marks
same_plays : (p : Plan) (u left : FunctionUnit) → holds_cycle p ≡ true → sound_of u ≡ true → inside p.tag u.functions ≡ true
    → NeverCollides (marked u) p.tag (cycle_in p) → SameMarks u left → Plays left p
same_plays p u left holds sound member never same =
    never_plays p holds left (same.sound sound) (ap (inside p.tag) same.functions ∙ member)
    (subst (λ (T : Table). NeverCollides T p.tag (cycle_in p)) (sym same.marks) never)

pub every_plan_plays : EveryPlanPlays
every_plan_plays p later told left h quiet =
    let t = fed (start h.functions h.segments h.columns) h.calls in
    let n = every_unit h.functions h.segments h.columns h.good h.calls h.replies h.unit h.leaves in
    let u = h.unit in
    let r = read_gives u p h.handed in
    let some : t.owed ≡ 0 → ⊥ = λ z. r.1 (n.tag ∙ z) in
    let member : inside u.plan.tag u.functions ≡ true = ap₂ inside n.tag n.functions ∙ n.member some in
    subst (λ (x : Plan). Plays left x) r.0
    (same_plays u.plan u left (owed_holds u t n some) n.sound member (best u t n some).never (unedited later told u left h.stays quiet))

pub every_search_plays : EverySearchPlays
unfolding search_answer
every_search_plays p later told left h quiet =
    let u = h.unit in
    let q = h.tag in
    let f = h.search.found refl in
    let plan = plan_of q f.cycle in
    let t = (then_both (tag_answer u q) _ (sym h.search.says)).0 in
    let a = tag_accepted u q t in
    let is : p ≡ plan = h.plan ∙ ap (λ (x : FunctionUnit). x.plan) f.unit in
    let held : cycle_in plan ≡ f.cycle = take-append_seam f.cycle (replicate (256 - length f.cycle) 0) in
    let holds = (holds_exactly plan).1 (planned q f.cycle (best_recordable u q f.cycle f.few f.best)) in
    let never : NeverCollides (marked u) q (cycle_in plan) = subst (λ l. NeverCollides (marked u) q l) (sym held) f.best.never in
    subst (λ (x : Plan). Plays left x) (sym is)
    (same_plays plan u left holds a.sound a.tag never (same_then (found_same u q h.found f) (unedited later told h.found left h.stays quiet)))
