-- `plan_record::all_zero` meets its contract. Assumes nothing.
use mathlib.Core.Path.{◌∙◌}
use borrow.Author.Rules.{rules}
use borrow.Author.Tests.{tests}
use lib.Dec.{eqb}
use Rattle.std.proofs.lemmas.Iterator.{YieldsList-from_slice}
use Rattle.std.proofs.lemmas.Iterator.Search.{all_from_yields_List}
use Rattle.plan_record.proofs.ListLaws.{zeros}
use Rattle.plan_record.proofs.all_zero.Goals as goal

pub returns : goal.returns
returns c =
    let b = c.args.bytes.now in
    all_from_yields_List (λ x. eqb x 0) _ _ _ c.all.ensures.ran (YieldsList-from_slice b cc) (λ x r q k. search (rules, tests)) ∙ zeros b
