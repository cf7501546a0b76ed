-- `queue::time_unit` meets its contract: its tests, and then the oldest record, if one waits. Assumes nothing.
use mathlib.Core.Path.{sym, ap, ◌∙◌}
use Prim.Native.Nat.{◌-◌}
use native.Mathlib.Omega.{arith}
use lib.ListN.{get_or}
use Rattle.std.proofs.Common.{Ok, Some}
use Rattle.controller.specs.declared.Stepped.{Stepped}
use Rattle.controller.specs.Bank.{step_of}
use Rattle.queue.specs.Line.{no_record}
use Rattle.queue.specs.Calls.{unit_answer}
use Rattle.queue.proofs.LineLaws.{copied_forward}
use Rattle.queue.proofs.CoreLaws.{passes, leaves, refused, none_waits, started, not_started}
use Rattle.queue.proofs.time_unit.Goals as goal

pub returns-in-Err : goal.returns-in-Err
unfolding unit_answer
returns-in-Err c =
    let did = refused 32 c.args.u c.args.bank c.args.list.now c.args.count _ (sym c.check_unit.ensures ∙ c.in-Err.is) in
    (passes 32 _ _ _ _ _ did, leaves 32 _ _ _ _ _ did)

pub returns-then-count-eq0 : goal.returns-then-count-eq0
unfolding unit_answer
returns-then-count-eq0 c =
    let did = none_waits 32 c.args.u c.args.bank c.args.list.now c.args.count (sym c.check_unit.ensures ∙ c.in_default.is) c.if-count-eq0.true in
    (c.idled.ensures ∙ passes 32 _ _ _ _ _ did, leaves 32 _ _ _ _ _ did)

pub returns-in-Err-answer : goal.returns-in-Err-answer
unfolding unit_answer step_of
returns-in-Err-answer c =
    let did = not_started 32 c.args.u c.args.bank c.args.list.now c.args.count (sym c.check_unit.ensures ∙ c.in_default.is) (omega arith) _
    (sym (ap (λ (x : Stepped). x.answer) c.step-after.ensures) ∙ c.in-Err-answer.is) in
    (c.idled-in-Err-answer.ensures ∙ passes 32 _ _ _ _ _ did, leaves 32 _ _ _ _ _ did)

pub returns-in-Ok : goal.returns-in-Ok
unfolding unit_answer step_of
returns-in-Ok c =
    let did = started 32 c.args.u c.args.bank c.args.list.now c.args.count (sym c.check_unit.ensures ∙ c.in_default.is) (omega arith)
    (sym (ap (λ (x : Stepped). x.answer) c.step-after.ensures) ∙ c.in-Ok.is) in (
      ap (λ (x : Stepped). record { answer = Ok (Some (get_or c.args.list.now 0 no_record)); bank = x.bank; count = c.args.count - 1 }) c.step-after.ensures ∙ passes 32 _ _ _ _ _ did,
      copied_forward _ _ _ c.copy_within.ensures.after ∙ leaves 32 _ _ _ _ _ did,
    )
