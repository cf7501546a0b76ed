-- `mean_cycle::table::targets_inside` meets its contract: every word of the table is tested. Assumes nothing.
use borrow.Author.Rules.{rules}
use Rattle.std.proofs.Common.{◌≤◌, ◌<◌, arith, tests}
use Rattle.std.proofs.lemmas.Iterator.{cases_from_all, YieldsList-from_slice}
use Rattle.mean_cycle.proofs.Tables.{targets_say}
use Rattle.mean_cycle.proofs.table.targets_inside.Goals as goal

pub returns : goal.returns
returns c =
    let n = c.args.nodes in
    let told = cases_from_all _ _ _ (λ x. x < n) (λ x. n ≤ x) c.all.ensures.ran (YieldsList-from_slice _ c.iter.ensures.rest) (λ x q k. search (rules, tests)) (λ x q k. search (rules, tests)) in
    targets_say _ _ _ _ (omega arith) (omega arith) told
