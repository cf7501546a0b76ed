-- `mean_cycle::search::search_listed` meets its contract: every round but the last lowers the average, in parts of 65536. Assumes nothing.
use borrow.Author.Tests.{not-true, not-false}
use Rattle.mean_cycle.proofs.Rounds.{search_start, search_more, search_less, search_end}
use Rattle.mean_cycle.proofs.search.search_listed.Goals as goal

pub first_cycle-best-requires : goal.first_cycle-best-requires
first_cycle-best-requires c = c.requires

pub loop-graph-init : goal.loop-graph-init
loop-graph-init c = search_start c.first_cycle-best.ensures

pub round-s-requires : goal.round-s-requires
round-s-requires c = c.loop-graph.invariant.ready

pub shape_of-work-then-not-found : goal.shape_of-work-then-not-found
shape_of-work-then-not-found c = (search_end c.first_cycle-best.ensures c.loop-graph.invariant c.round-s.ensures (not-true _ c.if-not-found.true-raw)).frame.size

pub returns-then-not-found : goal.returns-then-not-found
returns-then-not-found c = search_end c.first_cycle-best.ensures c.loop-graph.invariant c.round-s.ensures (not-true _ c.if-not-found.true-raw)

pub loop-graph-smaller : goal.loop-graph-smaller
loop-graph-smaller c = search_less c.loop-graph.invariant c.round-s.ensures (not-false _ c.if-not-found.false-raw)

pub loop-graph-preserved : goal.loop-graph-preserved
loop-graph-preserved c = search_more c.loop-graph.invariant c.round-s.ensures (not-false _ c.if-not-found.false-raw)
