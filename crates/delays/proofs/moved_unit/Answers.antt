-- `delays::moved_unit` meets its contract. Assumes nothing.
use mathlib.Core.Path.{◌∙◌, ap}
use lib.ListN.{get_or}
use Rattle.unit.specs.declared.FunctionUnit.{FunctionUnit}
use Rattle.unit.specs.declared.Outcome.{Outcome}
use Rattle.unit.specs.Calls.{column_of}
use Rattle.delays.proofs.MoveLaws.{fresh_is, unit_none, unit_more}
use Rattle.delays.proofs.moved_unit.Goals as goal

pub loop-i-init : goal.loop-i-init
loop-i-init c =
    ap (λ (o : Outcome). o.unit) c.fresh-made.ensures ∙ fresh_is c.args.segments c.args.width
    ∙ unit_none c.args.columns c.args.spots c.args.latency c.args.count c.args.segments c.args.width c.requires

pub loop-i-preserved : goal.loop-i-preserved
loop-i-preserved c =
    let a = c.args in
    ap (λ (o : Outcome). o.unit) c.with_column-given.ensures
    ∙ ap (λ (u : FunctionUnit). (column_of u 1 (get_or a.spots c.loop-i.i 0) (get_or a.columns c.loop-i.i 0)).unit) c.loop-i.invariant
    ∙ unit_more a.columns a.spots a.latency a.count a.segments a.width c.requires c.loop-i.i c.loop-i-test.true
