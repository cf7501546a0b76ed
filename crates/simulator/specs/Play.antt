-- A plan played for a number of time units, from an empty bank and ring position 0, both handed on from step to step.
use Rattle.std.specs.Prelude.{ℕ, zero, suc}
use Rattle.unit.specs.declared.Plan.{Plan}
use Rattle.unit.specs.declared.FunctionUnit.{FunctionUnit}
use Rattle.controller.specs.declared.Bank.{Bank}
use Rattle.controller.specs.Bank.{empty}
use Rattle.simulator.specs.declared.UnitPlayed.{UnitPlayed}
use Rattle.simulator.specs.Step.{play_of}

-- position and bank
pub record Place : Type 0 where
  pub position : ℕ
  pub bank : Bank

abbrev pub onward : UnitPlayed → Place
onward x = record { position = x.position; bank = x.bank }

-- the place after n units, which begin at position 0 with an empty bank
unfoldable pub place_after : FunctionUnit → Plan → ℕ → Place
place_after u p zero = record { position = 0; bank = empty }
place_after u p (suc n) = onward (play_of u p (place_after u p n).position (place_after u p n).bank)

-- the step of the unit after n units
abbrev pub unit_after : FunctionUnit → Plan → ℕ → UnitPlayed
unit_after u p n = play_of u p (place_after u p n).position (place_after u p n).bank
