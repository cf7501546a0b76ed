-- `console::turn` meets its contract. Assumes nothing.
use borrow.Author.Tests.{not-true, not-false}
use Rattle.console.specs.Turns.{unit_reply, UnitNext}
use Rattle.console.proofs.TurnLaws.{turned_none, turned_by_lem, gives_issued, gives_shared, gives_nothing}
use Rattle.console.proofs.turn.Goals as goal

pub returns-then-not-session : goal.returns-then-not-session
returns-then-not-session c = turned_none (not-true _ c.if-not-session.true) (c.put-end.ensures.value, c.put-end.ensures.out_after)

pub returns-in-Act : goal.returns-in-Act
unfolding unit_reply UnitNext
returns-in-Act c = turned_by_lem (not-false _ c.if-not-session.false) c.in-Act.is c.act.ensures

pub returns-in-Ask : goal.returns-in-Ask
unfolding unit_reply UnitNext
returns-in-Ask c = turned_by_lem (not-false _ c.if-not-session.false) c.in-Ask.is c.tell.ensures

pub returns-in-Issue : goal.returns-in-Issue
unfolding unit_reply UnitNext
returns-in-Issue c = turned_by_lem (not-false _ c.if-not-session.false) c.in-Issue.is (gives_issued _ _ c.answer.ensures)

pub returns-in-Share : goal.returns-in-Share
unfolding unit_reply UnitNext
returns-in-Share c = turned_by_lem (not-false _ c.if-not-session.false) c.in-Share.is (gives_shared _ _ c.answer-in-Share.ensures)

pub returns-in-Fresh : goal.returns-in-Fresh
unfolding unit_reply UnitNext
returns-in-Fresh c = turned_by_lem (not-false _ c.if-not-session.false) c.in-Fresh.is gives_nothing

pub returns-in-Load : goal.returns-in-Load
unfolding unit_reply UnitNext
returns-in-Load c = turned_by_lem (not-false _ c.if-not-session.false) c.in-Load.is gives_nothing

pub returns-in-Show : goal.returns-in-Show
unfolding unit_reply UnitNext
returns-in-Show c = turned_by_lem (not-false _ c.if-not-session.false) c.in-Show.is gives_nothing

pub returns-in-View : goal.returns-in-View
unfolding unit_reply UnitNext
returns-in-View c = turned_by_lem (not-false _ c.if-not-session.false) c.in-View.is gives_nothing

pub returns-in-Small : goal.returns-in-Small
unfolding unit_reply UnitNext
returns-in-Small c = turned_by_lem (not-false _ c.if-not-session.false) c.in-Small.is gives_nothing
