-- `plan_record::report` meets its contract. Assumes nothing.
use native.Mathlib.Omega.{arith}
use Rattle.words.proofs.Tests.{on, off}
use Rattle.plan_record.proofs.RecordLaws.{fits}
use Rattle.plan_record.proofs.ReadLaws.{report_refused, report_shown}
use Rattle.plan_record.proofs.report.Goals as goal

pub returns-then-not-is_record : goal.returns-then-not-is_record
returns-then-not-is_record c = report_refused _ (off c.if-not-is_record.true-raw c.is_record.ensures)

pub field_at-requires : goal.field_at-requires
field_at-requires c = omega (arith, (fits _ (on c.if-not-is_record.false-raw c.is_record.ensures)).long)

pub returns : goal.returns
returns c = report_shown _ _ (on c.if-not-is_record.false-raw c.is_record.ensures) c.field_at.ensures.value
