-- `command_table::find` meets its contract. Assumes nothing.
use mathlib.Core.Path.{refl}
use Rattle.command_table.proofs.TableLaws.{held}
use Rattle.command_table.proofs.NameLaws.{passed_start, passed_found, passed_more, passed_end}
use Rattle.command_table.proofs.find.Goals as goal

pub loop-row-init : goal.loop-row-init
loop-row-init c = passed_start _

pub returns-then-eq : goal.returns-then-eq
returns-then-eq c =
    let h = c.loop-row-test.true in
    let e = rw ((held _ _ (record { all_names = refl; all_usages = refl; all_forms = refl; all_verbs = refl }) h).name _) at c.eq.ensures in
    rw (
      (held _ _ (record { all_names = refl; all_usages = refl; all_forms = refl; all_verbs = refl }) h).form _,
      (held _ _ (record { all_names = refl; all_usages = refl; all_forms = refl; all_verbs = refl }) h).verb _,
    ) (passed_found c.loop-row.invariant h e c.if-eq.true)

pub loop-row-preserved : goal.loop-row-preserved
loop-row-preserved c =
    let h = c.loop-row-test.true in
    let e = rw ((held _ _ (record { all_names = refl; all_usages = refl; all_forms = refl; all_verbs = refl }) h).name _) at c.eq.ensures in
    passed_more c.loop-row.invariant h e c.if-eq.false

pub returns : goal.returns
returns c = passed_end c.loop-row.invariant c.loop-row-test.false
