-- `caller_text::shared_then` meets its contract: by the answer. Assumes nothing.
use mathlib.Core.Path.{sym, ap, ◌∙◌}
use Rattle.unit.specs.Answers.{Answer}
use Rattle.caller_text.specs.Told.{shared_then}
use Rattle.caller_text.proofs.shared_then.Goals as goal

pub returns-in-Ok : goal.returns-in-Ok
returns-in-Ok c =
    let a = c.args in
    c.empty_shared.ensures ∙ ap (λ (x : Answer). shared_then x a.callers a.before) (sym c.in-Ok.is)
