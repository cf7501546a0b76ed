-- 8 is for exactly the functions that have no plan. Proved in proofs/Claims.antt.
use Rattle.std.specs.Prelude.{◌≡◌, ◌↔◌, ℕ, Ok, Err}
use Rattle.unit.specs.declared.FunctionUnit.{FunctionUnit}
use Rattle.unit.specs.declared.Refusal.TheVariants.{NoPlan}
use Rattle.unit.specs.Calls.{tag_answer}
use Rattle.function_plan.specs.Own.{own_answer}

-- of a function of the unit, 8 says that the unit's plan is not its own, and nothing else is refused
pub record OwnAt (u : FunctionUnit) (q : ℕ) : Type 0 where
  pub eight : (own_answer u q ≡ Err NoPlan) ↔ (u.plan.tag ≡ q → ⊥)
  pub done : (own_answer u q ≡ Ok tt) ↔ (u.plan.tag ≡ q)

abbrev pub OwnExactly : Type 0
OwnExactly = (u : FunctionUnit) (q : ℕ) → tag_answer u q ≡ Ok tt → OwnAt u q
