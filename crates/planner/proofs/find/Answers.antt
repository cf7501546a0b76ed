-- `planner::find` meets its contract: each way that it ends is a law of the answer, the words and the plan. Assumes nothing.
use mathlib.Core.Path.{refl, sym, subst}
use Rattle.unit.proofs.Exits.{handed_on}
use Rattle.diagram.proofs.StatesLaws.{vector_value, vector_refused}
use Rattle.planner.specs.Inner.{Sought}
use Rattle.planner.proofs.SearchLaws.{sought_refused, sought_short, sought_many, standing, sought_found}
use Rattle.planner.proofs.find.Goals as goal

pub returns-in_err-word : goal.returns-in_err-word
returns-in_err-word c =
    let a = c.args in
    subst (Sought a.u a.tag.0 a.work.now a.work.now) (sym (handed_on c.from_residual.ensures.1 refl))
    (sought_refused _ _ _ _ (vector_refused _ _ _ (sym c.in_err-word.ensures)))

pub returns-then-work-lt16000 : goal.returns-then-work-lt16000
returns-then-work-lt16000 c =
    sought_short _ _ _ _ (vector_value _ _ _ (sym c.in_ok-word.ensures)) c.if-work-lt16000.true

pub returns-in_default : goal.returns-in_default
returns-in_default c =
    sought_many _ _ _ _ (vector_value _ _ _ (sym c.in_ok-word.ensures)) c.if-work-lt16000.false _ c.in_default.ensures

pub plan_of-requires : goal.plan_of-requires
plan_of-requires c =
    standing _ _ _ _ (vector_value _ _ _ (sym c.in_ok-word.ensures)) c.if-work-lt16000.false _ _ c.in-Some.ensures

pub returns : goal.returns
returns c =
    sought_found _ _ _ _ (vector_value _ _ _ (sym c.in_ok-word.ensures)) c.if-work-lt16000.false _ _ c.in-Some.ensures _ c.plan_of.ensures
