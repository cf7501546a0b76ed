-- `callers::tried` meets its contract: by the controller's answer. Assumes nothing.
use Prim.Native.Nat.{ℕ}
use mathlib.Core.Path.{◌≡◌, ap, ◌∙◌, sym}
use borrow.Author.Rules.{rules}
use lib.ListN.{length, get_or}
use Rattle.controller.specs.declared.Stepped.{Stepped}
use Rattle.controller.specs.Bank.{step_of}
use Rattle.queue.specs.Line.{no_record}
use Rattle.callers.specs.Parts.{on_by}
use Rattle.callers.specs.Inner.{started_by}
use Rattle.callers.proofs.TryLaws.{oldest_granted, oldest_refused}
use Rattle.callers.proofs.tried.Goals as goal

pub returns-in-Err : goal.returns-in-Err
unfolding step_of
returns-in-Err c =
    let a = c.args in
    let full : length a.records.list ≡ 32 = search rules in
    c.idled.ensures
    ∙ ap (on_by a.u a.bank a.callers 0 a.records.list a.counts.each a.caller)
    (oldest_refused a.u a.bank a.callers a.caller a.records.list a.counts.each c.requires full _ (ap (λ (k : ℕ). get_or a.records.list k no_record) c.place_of.ensures) _
    (sym (ap (λ (x : Stepped). x.answer) c.step-after.ensures) ∙ c.in-Err.is))

pub returns-in-Ok : goal.returns-in-Ok
unfolding step_of
returns-in-Ok c =
    let a = c.args in
    let full : length a.records.list ≡ 32 = search rules in
    let first = get_or a.records.list c.place_of.result no_record in
    c.started.ensures
    ∙ ap (λ (x : Stepped). started_by a.callers a.caller first x.bank a.records.list a.counts.each) c.step-after.ensures
    ∙ ap (on_by a.u a.bank a.callers 0 a.records.list a.counts.each a.caller)
    (oldest_granted a.u a.bank a.callers a.caller a.records.list a.counts.each c.requires full first (ap (λ (k : ℕ). get_or a.records.list k no_record) c.place_of.ensures)
    (sym (ap (λ (x : Stepped). x.answer) c.step-after.ensures) ∙ c.in-Ok.is))
