-- `small_text::tell` meets its contract: the totals of the size that was asked for. Assumes nothing.
use mathlib.Core.Path.{refl}
use Rattle.small_text.proofs.ToldLaws.{told_as}
use Rattle.small_text.proofs.tell.Goals as goal

pub returns : goal.returns
returns c =
    told_as c.args.session c.args.request c.byte.ensures c.byte-2.ensures refl c.totals-totalled.ensures c.put_totals-end.ensures
