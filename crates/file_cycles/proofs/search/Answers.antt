-- `file_cycles::search` meets its contract: a refusal hands out nothing, and a plan that was found its cycle. Assumes nothing.
use Rattle.file_cycles.proofs.SearchLaws.{found_inside, search_checked, search_ends}
use Rattle.file_cycles.proofs.search.Goals as goal

pub returns-in_default : goal.returns-in_default
returns-in_default c =
    let a = c.args in
    search_checked a.file.now a.tag a.work.now a.out.now a.count.now a.sum.now c.read-held.result c.byte.result c.check_tag-tagged.result _
    c.read-held.ensures c.byte.ensures c.check_tag-tagged.ensures c.check_search-answer.ensures c.number_in.result c.in_default.is c.number_in.ensures

pub hand_plan-requires : goal.hand_plan-requires
hand_plan-requires c =
    found_inside _ _ _ _ c.search-held.result c.search-held.ensures

pub returns : goal.returns
returns c =
    let a = c.args in
    search_ends a.file.now a.tag a.work.now a.out.now a.count.now a.sum.now c.read-held.result c.byte.result c.check_tag-tagged.result _
    c.read-held.ensures c.byte.ensures c.check_tag-tagged.ensures c.check_search-answer.ensures _ c.search-held.result c.in-Ok.is c.search-held.ensures
    _ _ _ _ (c.hand_plan.ensures.value, (c.hand_plan.ensures.out_after, (c.hand_plan.ensures.count_after, c.hand_plan.ensures.sum_after)))
