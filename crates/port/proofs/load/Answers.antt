-- `port::load` meets its contract: what was copied out stands in front of records that stay empty. Assumes nothing.
use mathlib.Core.Path.{refl, ap, ap₂, ◌∙◌}
use mathlib.Core.List.{List, ◌++◌}
use lib.ListN.{drop}
use Rattle.std.proofs.lemmas.List.{drop-replicate}
use Rattle.queue.specs.declared.Waiting.{Waiting}
use Rattle.queue.specs.Line.{no_record}
use Rattle.port.proofs.load.Goals as goal

pub returns : goal.returns
returns c =
    let n = c.args.count in
    (ap₂ (λ (x y : List Waiting). x ++ y) c.copy_from_slice.ensures.after (ap (drop n) c.no_records.ensures ∙ drop-replicate n 32 no_record), refl)
