-- `file_issue::step` meets its contract: what was tried before refused, the words are too few, or the event's answer and bank. Assumes nothing.
use native.Mathlib.Omega.{arith}
use Rattle.file_issue.proofs.WordLaws.{step_untried, step_short, step_made}
use Rattle.file_issue.proofs.step.Goals as goal

pub returns-in_default : goal.returns-in_default
returns-in_default c =
    let facts = step_untried _ _ _ _ c.in_default.is c.number_in.ensures in
    record { value = facts.0; words_after = facts.1 }

pub returns-then-words-lt4 : goal.returns-then-words-lt4
returns-then-words-lt4 c =
    let facts = step_short _ _ _ _ c.in-Ok.is (omega (arith, c.if-words-lt4.true)) in
    record { value = facts.0; words_after = facts.1 }

pub returns : goal.returns
returns c =
    let facts = step_made _ _ _ _ c.load.result c.step-stepped.result _ _ c.in-Ok.is (omega (arith, c.if-words-lt4.false)) c.load.ensures
    c.step-stepped.ensures c.store.ensures c.number_in-2.ensures in
    record { value = facts.0; words_after = facts.1 }
