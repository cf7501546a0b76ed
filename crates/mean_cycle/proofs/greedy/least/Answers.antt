-- `mean_cycle::greedy::least` meets its contract: the next 0 of a state stands at column n at the latest. Assumes nothing.
use native.Mathlib.Omega.{arith}
use Rattle.mean_cycle.proofs.Targets.{least_permits}
use Rattle.mean_cycle.proofs.greedy.least.Goals as goal

pub target-x-requires : goal.target-x-requires
target-x-requires c =
    record { listing = c.requires.listing; v_lt_nodes = (c.requires.v_lt_nodes, least_permits c.requires.listing c.requires.v_lt_nodes (omega arith) c.next_latency-t.ensures) }
