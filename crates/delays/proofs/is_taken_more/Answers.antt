-- `delays::is_taken_more` meets its contract. Assumes nothing.
use mathlib.Core.Path.{sym, ap, ◌∙◌}
use mathlib.Core.Bool.{◌||◌}
use native.Mathlib.Omega.{arith}
use borrow.Author.Tests.{eq-eqb, ne_eqb}
use Rattle.delays.proofs.WordLaws.{none_more, some_more}
use Rattle.delays.proofs.is_taken_more.Goals as goal

pub returns-then-one-word-eq0 : goal.returns-then-one-word-eq0
returns-then-one-word-eq0 c = let a = c.args in none_more a.one a.word _ a.before (omega arith) c.if-one-word-eq0.true

pub returns-then-spot-latency : goal.returns-then-spot-latency
returns-then-spot-latency c =
    let a = c.args in
    sym (ap (λ t. t || a.before) (eq-eqb _ _ c.if-spot-latency.true)) ∙ some_more a.one a.word _ a.before (omega arith) c.if-one-word-eq0.false

pub returns : goal.returns
returns c =
    let a = c.args in
    sym (ap (λ t. t || a.before) (ne_eqb _ _ c.if-spot-latency.false)) ∙ some_more a.one a.word _ a.before (omega arith) c.if-one-word-eq0.false
