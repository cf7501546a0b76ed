-- `callers::call` meets its contract: what is no caller is refused, or the arrival is answered. Assumes nothing.
use mathlib.Core.Path.{sym, ◌∙◌}
use borrow.Author.Rules.{rules}
use Rattle.callers.proofs.ValueLaws.{strays, calls}
use Rattle.callers.proofs.call.Goals as goal

pub returns-then-not-is_inside : goal.returns-then-not-is_inside
returns-then-not-is_inside c =
    let a = c.args in
    (λ j. record { answer = c.check_caller.ensures j; shared = a.shared }) ∙ strays a.u a.shared a.caller a.offered (sym c.is_inside.ensures ∙ c.if-not-is_inside.true)

pub returns : goal.returns
returns c =
    let a = c.args in
    calls a.u a.shared a.caller a.offered 32 (search rules) c.arrival_on-after.result c.arrival_on-after.ensures
