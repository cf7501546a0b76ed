-- `command_table::put_name` meets its contract. Assumes nothing.
use mathlib.Core.Path.{refl, ap}
use Rattle.command_table.specs.declared.Row.{Row}
use Rattle.command_table.proofs.TableLaws.{held, name_beyond}
use Rattle.command_table.proofs.NameLaws.{put_same, put_nothing}
use Rattle.command_table.proofs.put_name.Goals as goal

pub returns-in-Some : goal.returns-in-Some
returns-in-Some c =
    let found = c.in-Some.ensures.lookup in
    let e = rw ((held _ _ (record { all_names = refl; all_usages = refl; all_forms = refl; all_verbs = refl }) found.3.0).name _) at (ap (λ (r : Row). r.name.now) found.1) in
    let facts = put_same _ _ e (c.put.ensures.value, c.put.ensures.out_after) in
    record { value = facts.0; out_after = facts.1 }

pub returns-in-None : goal.returns-in-None
returns-in-None c =
    let facts = put_nothing _ _ (name_beyond _ c.in-None.ensures.lookup.3) in
    record { value = facts.0; out_after = facts.1 }
