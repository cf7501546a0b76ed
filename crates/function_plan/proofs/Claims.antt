-- 8 is for exactly the functions that have no plan; and a best cycle is one that a plan record holds. Assumes nothing.
use Rattle.std.proofs.Common.{Ok, Err}
use Prim.Native.Nat.{ℕ, zero, suc, ◌≤◌, ◌<◌}
use mathlib.Core.Path.{◌≡◌, refl, sym, ◌∙◌}
use mathlib.Core.Bool.{Bool, true, false}
use mathlib.Core.List.{List}
use native.Mathlib.Nat.{le_of_suc-le-suc, not-suc-le-zero}
use native.Mathlib.Omega.{arith}
use borrow.Author.Tests.{eq-eqb, ne_eqb, eqb-true, eqb-false}
use lib.Dec.{eqb}
use lib.ListN.{length, get_or}
use Rattle.unit.specs.declared.FunctionUnit.{FunctionUnit}
use Rattle.unit.specs.declared.Plan.{Plan}
use Rattle.unit.specs.declared.Refusal.{Refusal}
use Rattle.unit.specs.declared.Refusal.TheVariants.{NoPlan}
use Rattle.unit.specs.Unit.{inside, marked, sound_of}
use Rattle.unit.specs.Calls.{tag_answer}
use Rattle.unit.proofs.Laws.{never_done, tag_accepted, tag_range}
use Rattle.collision.specs.Vector.{vector_word}
use Rattle.collision.proofs.VectorLaws.{marked_bounded, vector_lt}
use Rattle.diagram.specs.Diagram.{longest, Walk}
use Rattle.diagram.specs.Diagram.Walk.{stay, step}
use Rattle.diagram.proofs.WidthLaws.{width_31}
use Rattle.plan_record.specs.Record.{Recordable}
use Rattle.plan_record.specs.Claims.{GivenPlan}
use Rattle.planner.specs.Plans.{Best, plan_of, read_answer}
use Rattle.planner.proofs.ReadLaws.{handing_refused, handing_done}
use Rattle.function_plan.specs.Own.{own_answer, own_plan}
use Rattle.function_plan.specs.Claims.{OwnExactly}

-- 8

module _ (u : FunctionUnit) (q : ℕ) (t : tag_answer u q ≡ Ok tt) where
  own_not : (u.plan.tag ≡ q → ⊥) → own_answer u q ≡ Err NoPlan
  unfolding own_answer read_answer
  own_not n = go (eqb u.plan.tag 0) refl
    where
      go : (b : Bool) → eqb u.plan.tag 0 ≡ b → own_answer u q ≡ Err NoPlan
      go true e = simp (t, (tag_accepted u q t).sound, e)
      go false e = simp (t, (tag_accepted u q t).sound, e, ne_eqb u.plan.tag q n)

  own_is : u.plan.tag ≡ q → own_answer u q ≡ Ok tt
  unfolding own_answer read_answer
  own_is e =
      simp (t, (tag_accepted u q t).sound, ne_eqb u.plan.tag 0 (λ z. omega (arith, (tag_range u q t).least)), eq-eqb u.plan.tag q e)

pub own_exactly : OwnExactly
own_exactly u q t = record {
  eight = ((λ e own. never_done (sym e ∙ own_is u q t own)), own_not u q t);
  done = ((λ e. go (eqb u.plan.tag q) refl e), own_is u q t);
}
  where
    go : (b : Bool) → eqb u.plan.tag q ≡ b → own_answer u q ≡ Ok tt → u.plan.tag ≡ q
    go true e d = eqb-true u.plan.tag q e
    go false e d = never_done (sym (own_not u q t (eqb-false u.plan.tag q e)) ∙ d)

pub tag_taken : (u : FunctionUnit) (q : ℕ) → sound_of u ≡ true → inside q u.functions ≡ true → tag_answer u q ≡ Ok tt
unfolding tag_answer
tag_taken u q sound member = rw (sound, member)

-- What is handed out

module _ (u : FunctionUnit) (q : ℕ) where
  pub own_says : {why : Refusal} → own_plan u q ≡ Err why → own_answer u q ≡ Err why
  unfolding own_plan
  own_says e = handing_refused (own_answer u q) u.plan e

  pub own_hands : {p : Plan} → own_plan u q ≡ Ok p → (own_answer u q ≡ Ok tt) × (u.plan ≡ p)
  unfolding own_plan
  own_hands e = handing_done (own_answer u q) u.plan e

-- A best cycle is one that a record holds

walk_most : {g n cv : ℕ} {l : List ℕ} {s e : ℕ} → Walk g n cv s l e → (i : ℕ) → i < length l → get_or l i 0 ≤ longest g n
walk_most stay i h = absurd (not-suc-le-zero h)
walk_most (step w r) zero h = w.small
walk_most (step w r) (suc i) h = walk_most r i (le_of_suc-le-suc h)

pub best_recordable : (u : FunctionUnit) (q : ℕ) (cycle : List ℕ) → length cycle ≤ 256 → Best 1 (marked u) q cycle → Recordable cycle
best_recordable u q cycle few b = record {
  some = b.latencies.nonempty;
  few = few;
  least = b.latencies.each;
  most = λ i h. omega (arith, walk_most b.diagram.closed i h, width_31 (vector_word (marked u) q) (vector_lt (marked u) (marked_bounded u) q));
}

-- the plan of a cycle holds it
pub planned : (q : ℕ) (cycle : List ℕ) → Recordable cycle → GivenPlan (plan_of q cycle)
planned q cycle r = record { cycle = cycle; recordable = r; holds = record { count = refl; sum = refl; latencies = refl } }
