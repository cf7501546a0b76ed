-- `callers::fits_from` meets its contract. Assumes nothing.
use mathlib.Core.Path.{◌∙◌}
use borrow.Author.Rules.{rules}
use borrow.Author.Tests.{tests}
use lib.ListN.{take, drop}
use Rattle.std.proofs.lemmas.Iterator.{YieldsList-from_slice}
use Rattle.std.proofs.lemmas.Iterator.Search.{all_from_yields_List}
use Rattle.unit.specs.Unit.{inside}
use Rattle.queue.specs.declared.Waiting.{Waiting}
use Rattle.queue.proofs.LineLaws.{tags_all}
use Rattle.callers.proofs.fits_from.Goals as goal

pub returns : goal.returns
returns c =
    let a = c.args in
    let line = take a.count (drop a.from a.list) in
    all_from_yields_List (λ (w : Waiting). inside w.tag a.functions) _ _ _ c.all.ensures.ran (YieldsList-from_slice line (search rules)) (λ x r q k. search (rules, tests)) ∙ tags_all a.functions line
