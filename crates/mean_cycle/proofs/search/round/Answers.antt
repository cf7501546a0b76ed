-- `mean_cycle::search::round` meets its contract: every sweep but the last raises the sum of the gains, which has a bound. Assumes nothing.
use Rattle.mean_cycle.proofs.Frames.{ready_few}
use Rattle.mean_cycle.proofs.Rounds.{round_frame, round_start, round_more, round_less, round_found, round_end}
use Rattle.mean_cycle.proofs.search.round.Goals as goal

pub reset-requires : goal.reset-requires
reset-requires c = (ready_few c.requires, c.requires.listing.room)

pub loop-graph-init : goal.loop-graph-init
loop-graph-init c = round_start c.requires c.reset.ensures

pub sweep-s-requires : goal.sweep-s-requires
sweep-s-requires c = record { ready = c.loop-graph.invariant.ready; tree = c.loop-graph.invariant.tree }

pub shape_of-work-then-found : goal.shape_of-work-then-found
shape_of-work-then-found c = (round_found (round_frame c.reset.ensures) c.loop-graph.invariant c.sweep-s.ensures c.if-found.true).frame.size

pub returns-then-found : goal.returns-then-found
returns-then-found c = round_found (round_frame c.reset.ensures) c.loop-graph.invariant c.sweep-s.ensures c.if-found.true

pub shape_of-work-then-moved-eq0 : goal.shape_of-work-then-moved-eq0
shape_of-work-then-moved-eq0 c = (round_end (round_frame c.reset.ensures) c.loop-graph.invariant c.sweep-s.ensures c.if-moved-eq0.true).frame.size

pub returns-then-moved-eq0 : goal.returns-then-moved-eq0
returns-then-moved-eq0 c = round_end (round_frame c.reset.ensures) c.loop-graph.invariant c.sweep-s.ensures c.if-moved-eq0.true

pub loop-graph-smaller : goal.loop-graph-smaller
loop-graph-smaller c = round_less c.sweep-s.ensures c.if-found.false c.if-moved-eq0.false

pub loop-graph-preserved : goal.loop-graph-preserved
loop-graph-preserved c = round_more c.loop-graph.invariant c.sweep-s.ensures c.if-found.false
