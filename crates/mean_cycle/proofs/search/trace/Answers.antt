-- `mean_cycle::search::trace` meets its contract: j links are left, from y up. Assumes nothing.
use Rattle.mean_cycle.proofs.Turns.{trace_start, trace_more}
use Rattle.mean_cycle.proofs.search.trace.Goals as goal

pub loop-j-init : goal.loop-j-init
loop-j-init c = (c.requires, trace_start c.requires.here c.requires.low c.requires.path)

pub loop-j-preserved : goal.loop-j-preserved
loop-j-preserved c =
    let i = c.loop-j.invariant in
    let h = i.0 in
    (h, trace_more _ _ _ _ _ _ _ _ _ h.room h.few h.short h.labels _ c.loop-j-test.true i.1)
