-- `table_totals::totals_of` meets its contract: the tally, and its largest average in lowest terms. Assumes nothing.
use mathlib.Core.Path.{sym, ◌∙◌}
use Rattle.table_numbers.proofs.ListLaws.{tables_length}
use Rattle.table_totals.proofs.TallyLaws.{tally_end}
use Rattle.table_totals.proofs.totals_of.Goals as goal

pub returns : goal.returns
returns c =
    record {
      totals = tally_end c.args.tables c.tally_all-tally.result _ _ (c.requires.count ∙ sym (tables_length c.args.segments c.args.columns)) c.tally_all-tally.ensures.tallied c.reduce-largest.ensures;
      used = c.tally_all-tally.ensures.used;
    }
