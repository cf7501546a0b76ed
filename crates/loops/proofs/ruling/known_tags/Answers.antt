-- `loops::ruling::known_tags` meets its contract: every tag is tested. Assumes nothing.
use mathlib.Core.Path.{◌∙◌}
use borrow.Author.Rules.{rules}
use Rattle.std.proofs.Common.{tests}
use Rattle.std.proofs.lemmas.Iterator.{YieldsList-from_slice}
use Rattle.std.proofs.lemmas.Iterator.Search.{all_from_yields_List}
use Rattle.unit.specs.Unit.{inside}
use Rattle.loops.proofs.RulingLaws.{all_tags_list}
use Rattle.loops.proofs.ruling.known_tags.Goals as goal

pub returns : goal.returns
returns c =
    let n = c.args.u.functions in
    all_from_yields_List (λ t. inside t n) _ _ _ c.all.ensures.ran (YieldsList-from_slice c.args.tags.now cc) (λ x b q k. search (rules, tests))
    ∙ all_tags_list c.args.u c.args.tags.now
