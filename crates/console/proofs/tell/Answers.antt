-- `console::tell` meets its contract. Assumes nothing.
use mathlib.Core.Path.{refl}
use lib.ListN.{replicate}
use Rattle.command.specs.Lines.{latencies_in}
use Rattle.console.specs.Turns.{question_of}
use Rattle.command.proofs.FrontLaws.{front_length}
use Rattle.console.proofs.JudgeLaws.{gives_told}
use Rattle.console.proofs.tell.Goals as goal

pub slice_bounds-ask-end : goal.slice_bounds-ask-end
slice_bounds-ask-end c =
    front_length (latencies_in c.args.line.now) (replicate 257 0) c.latencies-count.ensures.value c.latencies-count.ensures.cycle_after

pub returns : goal.returns
returns c =
    let a = c.args in
    gives_told (latencies_in a.line.now) (replicate 257 0) c.latencies-count.ensures.value c.latencies-count.ensures.cycle_after c.question_of-asked.result
    (question_of a.ask a.request) a.line.now a.out.now c.question_of-asked.ensures refl refl (c.ask-end.ensures.value, c.ask-end.ensures.out_after)
