-- `cycles::take_step` meets its contract: what it writes and where it leads are those of the least latency. Assumes nothing.
use Prim.Native.Nat.{◌+◌}
use mathlib.Core.Path.{ap, ◌∙◌}
use native.Mathlib.Omega.{arith}
use lib.ListN.{set, length-set}
use Rattle.diagram.specs.Work.{place_in}
use Rattle.cycles.proofs.LatencyLaws.{step_state}
use Rattle.cycles.proofs.take_step.Goals as goal

pub bounds-work-step : goal.bounds-work-step
bounds-work-step c = simp length-set (omega arith)

pub returns : goal.returns
returns c =
    let a = c.args in
    let w = a.work.now in
    record {
      words = ap (set (set w (768 + a.at) (a.step + 1)) (1024 + a.step)) c.least_latency-latency.ensures;
      place = c.place-next.ensures ∙ ap (place_in w a.states) (step_state a.vector _ _ _ _ c.requires.narrow c.least_latency-latency.ensures c.shift.ensures);
    }
