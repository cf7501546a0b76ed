-- `file_issue::store` meets its contract: the first four words are the registers. Assumes nothing.
use native.Mathlib.Omega.{arith}
use lib.ListN.{length-set}
use Rattle.file_issue.proofs.WordLaws.{bank_stored}
use Rattle.file_issue.proofs.store.Goals as goal

pub bounds-words-1 : goal.bounds-words-1
bounds-words-1 c = simp length-set (omega arith)

pub bounds-words-2 : goal.bounds-words-2
bounds-words-2 c = simp length-set (omega arith)

pub returns : goal.returns
returns c = bank_stored c.args.bank c.args.words.now c.requires
