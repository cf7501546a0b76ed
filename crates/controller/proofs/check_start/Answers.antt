-- `controller::check_start` meets its contract: the unit and the tag first, then the lowest bit of the register. Assumes nothing.
use Rattle.std.proofs.Common.{Ok}
use mathlib.Core.Path.{◌≡◌, sym, ◌∙◌}
use Rattle.unit.specs.Calls.{tag_answer}
use Rattle.controller.proofs.StepLaws.{start_refused, start_held, start_granted}
use Rattle.unit.proofs.Exits.{handed_on}
use Rattle.controller.proofs.check_start.Goals as goal

pub returns-then-register-eq1 : goal.returns-then-register-eq1
returns-then-register-eq1 c =
    let accepting : tag_answer c.args.u c.args.q.0 ≡ Ok tt = sym c.check_tag.ensures ∙ c.in_ok-check_tag.was in
    let a = c.args in
    sym (start_held a.u a.bank a.q accepting c.register_of-register.ensures c.if-register-eq1.true)

pub returns-in_err-check_tag : goal.returns-in_err-check_tag
returns-in_err-check_tag c = handed_on c.from_residual.ensures.1 (let a = c.args in
    sym (start_refused a.u a.bank a.q _ (sym c.check_tag.ensures ∙ c.in_err-check_tag.was)))

pub returns : goal.returns
returns c =
    let accepting : tag_answer c.args.u c.args.q.0 ≡ Ok tt = sym c.check_tag.ensures ∙ c.in_ok-check_tag.was in
    let a = c.args in
    sym (start_granted a.u a.bank a.q accepting c.register_of-register.ensures c.if-register-eq1.false)
