-- A unit of two functions with a plan of function 1, or with none. Assumes nothing.
use Rattle.std.proofs.Common.{Ok, Err}
use mathlib.Core.Path.{◌≡◌, refl, sym, ap, ◌∙◌}
use mathlib.Core.List.{◌∷◌}
use Prim.Native.Nat.{ℕ}
use native.Mathlib.Omega.{arith}
use lib.ListN.{replicate}
use Rattle.words.specs.Below.{some_below}
use Rattle.unit.specs.declared.FunctionUnit.{FunctionUnit}
use Rattle.unit.specs.declared.Refusal.TheVariants.{NoSuchTag, NoPlan}
use Rattle.unit.specs.Numbers.{number_in}
use Rattle.unit.specs.Unit.{marked, marks_inside, sound_of}
use Rattle.unit.specs.Calls.{tag_answer}
use Rattle.planner.specs.Plans.{read_answer}
use Rattle.function_plan.specs.Own.{own_answer}
use Rattle.function_plan.specs.Claims.{OwnAt}

abbrev keeping : ℕ → FunctionUnit
keeping tag = record {
  functions = 2;
  segments = 1;
  columns = 1;
  marks = replicate 128 0;
  plan = record { tag = tag; count = 2; sum = 7; latencies = 3 ∷ 4 ∷ replicate 254 0 };
}

-- the plan is function 1's, and not function 2's; there is no function 9
pub of_1 : own_answer (keeping 1) 1 ≡ Ok tt
unfolding own_answer tag_answer read_answer sound_of marks_inside marked some_below
of_1 = refl

pub of_2 : own_answer (keeping 1) 2 ≡ Err NoPlan
unfolding own_answer tag_answer read_answer sound_of marks_inside marked some_below
of_2 = refl

pub of_9 : own_answer (keeping 1) 9 ≡ Err NoSuchTag
unfolding own_answer tag_answer sound_of marks_inside marked some_below
of_9 = refl

-- and of it 8 says nothing
pub not_own_9 : OwnAt (keeping 1) 9 → ⊥
not_own_9 o = let e : ◌≡◌ {A = ℕ} 2 8 = ap number_in (sym of_9 ∙ o.eight.1 (λ z. omega (arith, z))) in omega arith

-- a plan that was dropped, whatever its other fields hold
pub of_none : own_answer (keeping 0) 1 ≡ Err NoPlan
unfolding own_answer tag_answer read_answer sound_of marks_inside marked some_below
of_none = refl
