-- `delay_text::draw` meets its contract. Assumes nothing.
use Rattle.unit.proofs.Exits.{handed_on}
use Rattle.delay_text.proofs.ShownLaws.{table_refused, table_drawn}
use Rattle.delay_text.proofs.draw.Goals as goal

pub returns-in_err-made : goal.returns-in_err-made
returns-in_err-made c =
    let facts = table_refused _ _ _ c.delays-made.result c.delays-made.ensures _ _ c.in_err-made.was in
    record { value = handed_on c.from_residual.ensures.1 facts.0; out_after = facts.1 }

pub returns : goal.returns
returns c =
    let facts = table_drawn _ _ _ c.delays-made.result c.delays-made.ensures _ _ _ c.in_ok-made.was (c.table.ensures.value, c.table.ensures.out_after) in
    record { value = facts.0; out_after = facts.1 }
