-- `file_cycles::greedy` meets its contract: the answer, the cycle, its count and sum, and the working words. Assumes nothing.
use Rattle.file_cycles.proofs.GreedyLaws.{greedy_handed}
use Rattle.file_cycles.proofs.greedy.Goals as goal

pub returns : goal.returns
returns c =
    let a = c.args in
    let facts = greedy_handed a.file.now a.tag a.work.now _ a.out.now _ c.read-back.result c.byte.result c.greedy-found.result c.read-back.ensures
    c.byte.ensures c.greedy-found.ensures _ _ _ _ _ (c.hand_cycle.ensures.value, (c.hand_cycle.ensures.count_after, c.hand_cycle.ensures.sum_after)) in
    record { value = facts.0; out_after = facts.1.0; count_after = facts.1.1.0; sum_after = facts.1.1.1.0; work_after = facts.1.1.1.1 }
