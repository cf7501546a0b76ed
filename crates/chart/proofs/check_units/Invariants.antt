-- `chart::check_units` meets its contract. The loop's invariant: the units passed are played. Assumes nothing.
use Rattle.std.proofs.Common.{Ok}
use mathlib.Core.Path.{◌≡◌}
use Rattle.chart.specs.Answers.{units_answer}
use Rattle.chart.proofs.CellLaws.{At}
use Rattle.chart.proofs.check_units.Given as goal

abbrev pub invariant-loop : goal.invariant-loop
invariant-loop l = At l.u l.plan l.position l.bank l.counter × (units_answer l.u l.plan l.counter ≡ Ok tt)
