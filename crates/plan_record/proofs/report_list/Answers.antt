-- `plan_record::report_list` meets its contract. Assumes nothing.
use native.Mathlib.Omega.{arith}
use Rattle.words.proofs.Tests.{on, off}
use Rattle.plan_record.proofs.RecordLaws.{fits}
use Rattle.plan_record.proofs.ReadLaws.{list_refused, list_shown}
use Rattle.plan_record.proofs.report_list.Goals as goal

pub returns-then-not-is_record : goal.returns-then-not-is_record
returns-then-not-is_record c = list_refused _ (off c.if-not-is_record.true-raw c.is_record.ensures)

pub field_at-requires : goal.field_at-requires
field_at-requires c = omega (arith, (fits _ (on c.if-not-is_record.false-raw c.is_record.ensures)).long)

pub slice_bounds-result-end-2 : goal.slice_bounds-result-end-2
slice_bounds-result-end-2 c = omega (arith, c.field_at.ensures.value, (fits _ (on c.if-not-is_record.false-raw c.is_record.ensures)).inside)

pub returns : goal.returns
returns c = list_shown _ c.field_at.result (on c.if-not-is_record.false-raw c.is_record.ensures) c.field_at.ensures.value
