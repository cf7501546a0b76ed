-- `plan_record::write` meets its contract: each way that it ends is a law of the answer and of the bytes. Assumes nothing.
use mathlib.Core.Path.{refl}
use Rattle.words.proofs.Tests.{on, off}
use Rattle.plan_record.proofs.PlanLaws.{writable_holds, ends_bad, ends_short, ends_written, write_room}
use Rattle.plan_record.proofs.write.Goals as goal

pub returns-then-not-is_writable : goal.returns-then-not-is_writable
returns-then-not-is_writable c =
    let facts = ends_bad _ _ (off c.if-not-is_writable.true-raw c.is_writable.ensures) in
    record { value = facts.0; out_after = facts.1 }

pub returns-then-out-size : goal.returns-then-out-size
returns-then-out-size c =
    let facts = ends_short _ _ (on c.if-not-is_writable.false-raw c.is_writable.ensures) _ refl c.if-out-size.true in
    record { value = facts.0; out_after = facts.1 }

pub write_record-requires : goal.write_record-requires
write_record-requires c =
    let w = on c.if-not-is_writable.false-raw c.is_writable.ensures in
    record { plan = writable_holds _ w; fits = write_room _ c.args.out.now w _ refl c.if-out-size.false }

pub returns : goal.returns
returns c =
    let facts = ends_written _ _ (on c.if-not-is_writable.false-raw c.is_writable.ensures) _ refl _ c.if-out-size.false c.write_record.ensures in
    record { value = facts.0; out_after = facts.1 }
