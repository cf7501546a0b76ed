-- `queue::all_fit` meets its contract. Assumes nothing.
use mathlib.Core.Path.{◌∙◌}
use borrow.Author.Rules.{rules}
use borrow.Author.Tests.{tests}
use Rattle.std.proofs.lemmas.Iterator.{YieldsList-from_slice}
use Rattle.std.proofs.lemmas.Iterator.Search.{all_from_yields_List}
use Rattle.unit.specs.Unit.{inside}
use Rattle.queue.specs.declared.Waiting.{Waiting}
use Rattle.queue.proofs.LineLaws.{tags_all}
use Rattle.queue.proofs.all_fit.Goals as goal

pub returns : goal.returns
returns c =
    let a = c.args in
    all_from_yields_List (λ (w : Waiting). inside w.tag a.functions) _ _ _ c.all.ensures.ran (YieldsList-from_slice a.line.now (search rules)) (λ x r q k. search (rules, tests)) ∙ tags_all a.functions a.line.now
