-- `callers::next_turn` meets its contract. Assumes nothing.
use Prim.Native.Nat.{◌+◌, ◌-◌}
use mathlib.Core.Path.{sym, ◌∙◌}
use native.Mathlib.Omega.{arith}
use Rattle.callers.proofs.RoundLaws.{going_found, going_on, going_end}
use Rattle.callers.proofs.next_turn.Goals as goal

pub returns-then-has_work : goal.returns-then-has_work
returns-then-has_work c = going_found c.loop.invariant _ c.round_to-caller.ensures (c.args.callers - (c.loop.counter + 1)) (omega arith) (sym c.has_work.ensures ∙ c.if-has_work.true)

pub loop-preserved : goal.loop-preserved
loop-preserved c = going_on c.loop.invariant _ c.round_to-caller.ensures _ (omega arith) (sym c.has_work.ensures ∙ c.if-has_work.false)

pub returns : goal.returns
returns c = going_end c.loop.invariant (omega arith)
