-- `plan_record::write_ring` meets its contract. Assumes nothing.
use Prim.Native.Nat.{ℕ, ◌+◌}
use mathlib.Core.Path.{◌∙◌, ap₂}
use mathlib.Core.List.{List}
use native.Mathlib.Omega.{arith}
use lib.ListN.{set}
use Rattle.plan_record.specs.Record.{ring_byte}
use Rattle.plan_record.proofs.RingLaws.{reached_first, reached_next}
use Rattle.plan_record.proofs.ListLaws.{list_none, list_more}
use Rattle.plan_record.proofs.write_ring.Goals as goal

pub loop-j-init : goal.loop-j-init
loop-j-init c = (reached_first _ c.requires.2, list_none c.args.out.now c.args.at _)

pub loop-j-preserved : goal.loop-j-preserved
loop-j-preserved c =
    let a = c.args in (
      reached_next _ c.loop-j.j _ _ c.ring_byte-turned.ensures.reached,
      ap₂ (λ (x : List ℕ) (y : ℕ). set x (a.at + c.loop-j.j) y) c.loop-j.invariant.1 c.ring_byte-turned.ensures.byte ∙ list_more a.out.now a.at c.loop-j.j (ring_byte a.list.now) (omega arith),
    )
