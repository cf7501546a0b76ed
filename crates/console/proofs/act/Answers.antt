-- `console::act` meets its contract. Assumes nothing.
use mathlib.Core.Path.{◌≡◌}
use Rattle.planner.specs.Plans.{search_answer}
use Rattle.controller.specs.declared.Event.TheVariants as Event
use Rattle.controller.specs.Bank.{step_of}
use Rattle.session.specs.Sessions.{tag, answer_line}
use Rattle.console.specs.Turns.{with_bank, event_asked, Sought}
use Rattle.console.proofs.TurnLaws.{act_by, gives_at}
use Rattle.console.proofs.act.Goals as goal

pub returns-in-Mark : goal.returns-in-Mark
returns-in-Mark c =
    let a = c.args in
    act_by a.session a.request c.in-Mark.is c.mark.ensures

pub returns-in-Unmark : goal.returns-in-Unmark
returns-in-Unmark c =
    let a = c.args in
    act_by a.session a.request c.in-Unmark.is c.unmark.ensures

pub returns-in-Search : goal.returns-in-Search
returns-in-Search c =
    let a = c.args in
    act_by a.session a.request c.in-Search.is (gives_at (λ q. answer_line (search_answer a.session.unit q 16000)) (Sought a.session) c.byte.ensures c.seek.ensures)

pub returns-in-Read : goal.returns-in-Read
returns-in-Read c =
    let a = c.args in
    act_by a.session a.request c.in-Read.is c.tell_plan.ensures

pub returns-in-Tick : goal.returns-in-Tick
returns-in-Tick c =
    let a = c.args in
    act_by a.session a.request c.in-Tick.is c.step.ensures

pub returns-in-Start : goal.returns-in-Start
returns-in-Start c =
    let a = c.args in
    act_by a.session a.request c.in-Start.is (gives_at (λ q. answer_line (event_asked a.session (Event.Start (tag q)))) (λ q x. x ≡ with_bank a.session (step_of a.session.unit a.session.bank (Event.Start (tag q))).bank) c.byte.ensures c.step-in-Start.ensures)

pub returns-in-Bank : goal.returns-in-Bank
returns-in-Bank c =
    let a = c.args in
    act_by a.session a.request c.in-Bank.is c.tell_bank.ensures
