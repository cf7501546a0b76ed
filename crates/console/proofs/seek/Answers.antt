-- `console::seek` meets its contract. Assumes nothing.
use mathlib.Core.Path.{refl}
use lib.ListN.{replicate}
use Rattle.console.proofs.SessionLaws.{sought}
use Rattle.console.proofs.seek.Goals as goal

pub returns : goal.returns
returns c =
    sought c.args.session (replicate 16000 0) refl c.search-made.ensures c.put_answer-end.ensures
