-- `delay_text::write` meets its contract. Assumes nothing.
use Rattle.unit.proofs.Exits.{handed_on}
use Rattle.delay_text.proofs.ShownLaws.{file_refused, file_written}
use Rattle.delay_text.proofs.write.Goals as goal

pub returns-in_err-delayed : goal.returns-in_err-delayed
returns-in_err-delayed c =
    let facts = file_refused _ _ _ c.delays-delayed.result c.delays-delayed.ensures _ _ c.in_err-delayed.was in
    record { value = handed_on c.from_residual.ensures.1 facts.0; out_after = facts.1 }

pub returns : goal.returns
returns c =
    let facts = file_written _ _ _ c.delays-delayed.result c.delays-delayed.ensures _ _ _ c.in_ok-delayed.was (c.write.ensures.value, c.write.ensures.out_after) in
    record { value = facts.0; out_after = facts.1 }
