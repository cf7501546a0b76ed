-- The plan of a function, test by test. Assumes nothing.
use Rattle.std.proofs.Common.{Ok, Err}
use mathlib.Core.Path.{◌≡◌, refl, sym, ap, ◌∙◌}
use mathlib.Core.Bool.{Bool}
use Prim.Native.Nat.{ℕ}
use borrow.Author.Tests.{eq-eqb, ne_eqb}
use lib.Dec.{eqb}
use Rattle.unit.specs.declared.Plan.{Plan}
use Rattle.unit.specs.declared.FunctionUnit.{FunctionUnit}
use Rattle.unit.specs.declared.Refusal.{Refusal}
use Rattle.unit.specs.declared.Refusal.TheVariants.{NoPlan}
use Rattle.unit.specs.Answers.{Answer}
use Rattle.unit.specs.Calls.{check, and_then, tag_answer}
use Rattle.planner.specs.Plans.{read_answer, handing, read_of}
use Rattle.planner.proofs.ReadLaws.{read_refused, read_done}
use Rattle.function_plan.specs.Own.{own_answer, own_plan}

-- by what the tag, the read and the test of the plan's tag answer
module _ (u : FunctionUnit) (q : ℕ) where
  own_by : {t r : Answer} {b : Bool} {p : Plan} → tag_answer u q ≡ t → read_answer u ≡ r → eqb u.plan.tag q ≡ b → u.plan ≡ p
      → own_plan u q ≡ handing (and_then t (and_then r (check b NoPlan (Ok tt)))) p
  unfolding own_plan own_answer
  own_by {t} {r} {b} e f g h = simp (e, f, g) (ap (handing (and_then t (and_then r (check b NoPlan (Ok tt))))) h)

  pub tag_refused : {why : Refusal} → tag_answer u q ≡ Err why → Err why ≡ own_plan u q
  tag_refused e = sym (own_by e refl refl refl)

  module _ (t : tag_answer u q ≡ Ok tt) where
    pub held_refused : {why : Refusal} → read_of u ≡ Err why → Err why ≡ own_plan u q
    held_refused e = sym (own_by t (read_refused u e) refl refl)

    pub held_other : {p : Plan} → read_of u ≡ Ok p → (p.tag ≡ q → ⊥) → Err NoPlan ≡ own_plan u q
    held_other {p} e n =
        let d = read_done u e in
        sym (own_by t d.0 (ne_eqb u.plan.tag q (λ z. n (sym (ap (λ (x : Plan). x.tag) d.1) ∙ z))) d.1)

    pub held_own : {p : Plan} → read_of u ≡ Ok p → p.tag ≡ q → Ok p ≡ own_plan u q
    held_own {p} e z =
        let d = read_done u e in
        sym (own_by t d.0 (eq-eqb u.plan.tag q (ap (λ (x : Plan). x.tag) d.1 ∙ z)) d.1)
