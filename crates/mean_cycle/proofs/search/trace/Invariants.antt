-- `mean_cycle::search::trace` meets its contract: j links are left, from y up. Assumes nothing.
use Rattle.mean_cycle.specs.Inner.{Traceable}
use Rattle.mean_cycle.proofs.Turns.{Tracing}
use Rattle.mean_cycle.proofs.search.trace.Given as goal

abbrev pub invariant-loop-j : goal.invariant-loop-j
invariant-loop-j l =
    (h : Traceable l.initial.work l.v l.t l.k) × Tracing l.initial.work l.work h.n l.v l.t l.k h.x l.sum l.y l.j
