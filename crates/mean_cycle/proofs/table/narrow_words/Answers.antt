-- `mean_cycle::table::narrow_words` meets its contract: every node's word is tested. Assumes nothing.
use borrow.Author.Rules.{rules}
use Rattle.std.proofs.Common.{◌≤◌, ◌<◌, arith, tests}
use Rattle.std.proofs.lemmas.Iterator.{cases_from_all, YieldsList-from_slice}
use Rattle.diagram.specs.Diagram.{width}
use Rattle.mean_cycle.proofs.Tables.{narrow_says}
use Rattle.mean_cycle.proofs.table.narrow_words.Goals as goal

pub returns : goal.returns
returns c =
    let m = c.args.width in
    let told = cases_from_all _ _ _ (λ x. width x ≤ m) (λ x. m < width x) c.all.ensures.ran (YieldsList-from_slice _ cc) (λ x q k. search (rules, tests)) (λ x q k. search (rules, tests)) in
    narrow_says c.args.work.now c.args.nodes m _ (λ i. omega (arith, c.type_inv.work i)) (omega arith) told
