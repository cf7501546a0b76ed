-- `callers::all_few` meets its contract. Assumes nothing.
use mathlib.Core.Path.{◌∙◌}
use borrow.Author.Rules.{rules}
use borrow.Author.Tests.{tests}
use lib.Dec.{leb}
use lib.ListN.{take}
use Rattle.std.proofs.lemmas.Iterator.{YieldsList-from_slice}
use Rattle.std.proofs.lemmas.Iterator.Search.{all_from_yields_List}
use Rattle.callers.specs.Queues.{room}
use Rattle.callers.proofs.EachLaws.{each_all}
use Rattle.callers.proofs.all_few.Goals as goal

pub returns : goal.returns
returns c =
    let a = c.args in
    all_from_yields_List (λ n. leb n room) _ _ _ c.all.ensures.ran (YieldsList-from_slice (take a.callers a.counts) (search rules)) (λ x r q k. search (rules, tests)) ∙ each_all (λ n. leb n room) a.callers a.counts (search rules)
