-- `table_totals::tally_all` meets its contract. Assumes nothing.
use mathlib.Core.Path.{refl}
use Prim.Native.Nat.{◌<◌}
use native.Mathlib.Omega.{arith}
use Rattle.table_totals.proofs.TallyLaws.{tally_start, tally_more, used_then, some_tables, few_reach, one_reaches}
use Rattle.table_totals.proofs.tally_all.Goals as goal

pub loop-number-init : goal.loop-number-init
loop-number-init c = (tally_start c.measure-zero.result c.measure-zero.ensures, record { size = refl; beyond = λ i h. refl })

pub add_table-added-requires : goal.add_table-added-requires
add_table-added-requires c =
    let few : c.loop-number.tally.reaching < 4096 = omega (arith, few_reach c.loop-number.invariant.0, (some_tables c.requires).1) in
    record { tally = c.loop-number.invariant.0.by.fitting; average = c.measure-next.ensures.fitting; few = few; one = one_reaches c.measure-next.ensures }

pub loop-number-preserved : goal.loop-number-preserved
loop-number-preserved c =
    (tally_more c.loop-number.invariant.0 c.measure-next.ensures c.add_table-added.result c.add_table-added.ensures, used_then c.loop-number.invariant.1 c.measure-next.ensures.used)
