-- `graph::dot` meets its contract: the tag is refused, the room too short, or the rest done by `dot_states`. Assumes nothing.
use Rattle.std.proofs.Common.{Ok}
use mathlib.Core.Path.{◌≡◌, sym, ◌∙◌}
use Rattle.unit.specs.Calls.{tag_answer}
use Rattle.graph.proofs.AnswerLaws.{dot_refused, dot_short}
use Rattle.unit.proofs.Exits.{handed_on}
use Rattle.graph.proofs.dot.Goals as goal

pub returns-then-out-lt-DOT : goal.returns-then-out-lt-DOT
returns-then-out-lt-DOT c =
    let passed : tag_answer c.args.u c.args.tag.0 ≡ Ok tt = sym c.check_tag.ensures ∙ c.in_ok-check_tag.was in
    let a = c.args in
    let facts = dot_short a.u a.tag.0 passed a.out.now c.if-out-lt-DOT.true in
    record { value = facts.0; out_after = facts.1 }

pub returns-in_err-check_tag : goal.returns-in_err-check_tag
returns-in_err-check_tag c =
    let a = c.args in
    let facts = dot_refused a.u a.tag.0 a.out.now _ (sym c.check_tag.ensures ∙ c.in_err-check_tag.was) in
    record { value = handed_on c.from_residual.ensures.1 facts.0; out_after = facts.1 }
