-- `planner::search` meets its contract: the refusal is passed on, or the plan is stored. Assumes nothing.
use Rattle.planner.proofs.SearchLaws.{search_refused, search_found}
use Rattle.planner.proofs.search.Goals as goal

pub returns-in-Err : goal.returns-in-Err
returns-in-Err c = search_refused _ _ _ _ _ c.in-Err.ensures

pub returns-in-Ok : goal.returns-in-Ok
returns-in-Ok c = search_found _ _ _ _ _ c.in-Ok.ensures
