-- What no list of calls leaves. Assumes nothing.
use mathlib.Core.List.{[], ◌∷◌}
use native.Mathlib.Omega.{arith}
use Rattle.unit.specs.Calls.{fresh_of}
use Rattle.planner.specs.Plans.{plan_of, with_plan}
use Rattle.planner.specs.Sheet.{start, spot_number, fed, Noted}
use Rattle.planner.specs.Sheet.Call.{Mark, Unmark}

-- a unit that kept its plan over edits
pub not_noted : Noted (with_plan (fresh_of 1 1 2).unit (plan_of 1 (1 ∷ []))) (fed (start 1 1 2) (Mark 1 1 1 ∷ Unmark 1 1 1 ∷ [])) → ⊥
unfolding fed spot_number
not_noted n = omega (arith, n.tag)
