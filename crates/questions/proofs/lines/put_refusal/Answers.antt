-- `questions::lines::put_refusal` meets its contract. Assumes nothing.
use mathlib.Core.Path.{ap}
use mathlib.Core.List.{◌++◌}
use Rattle.text.specs.Text.{ascii, decimal}
use Rattle.text.proofs.RowLaws.{wrote_as}
use Rattle.listing.specs.Lines.{newline}
use Rattle.questions.proofs.lines.put_refusal.Goals as goal

pub returns : goal.returns
returns c =
    wrote_as c.put_value.ensures (ap (λ n. ascii "refused " ++ decimal n ++ newline) c.from.ensures)
