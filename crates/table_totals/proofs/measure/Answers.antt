-- `table_totals::measure` meets its contract: the table is accepted and so is its search. Assumes nothing.
use Prim.Native.Nat.{◌^◌, ◌<◌}
use native.Mathlib.Omega.{arith}
use borrow.Author.Rules.{rules}
use Rattle.table_numbers.proofs.FillLaws.{sized}
use Rattle.table_totals.proofs.MeasureLaws.{function_one, measured}
use Rattle.table_totals.proofs.measure.Goals as goal

pub bound_of-bound-requires : goal.bound_of-bound-requires
bound_of-bound-requires c =
    function_one (sized _ _ c.requires.0.size) _ c.requires.0.size (omega (arith, c.requires.1, c.requires.0.count)) c.table-made.ensures

pub returns : goal.returns
returns c =
    let low : c.search-searched.result.unit.plan.sum < 2 ^ 16 = search rules in
    measured (sized _ _ c.requires.0.size) _ c.requires.0.size (omega (arith, c.requires.1, c.requires.0.count)) c.requires.0.words c.table-made.ensures c.search-searched.ensures
    c.bound_of-bound.ensures c.reaches-reaching.ensures low
