-- `plan_record::is_record` meets its contract: each test is one of the facts of a record. Assumes nothing.
use Prim.Native.Nat.{ℕ, ◌+◌, ◌/◌}
use mathlib.Core.Path.{◌∙◌, sym, ap, ap₂}
use native.Mathlib.Omega.{arith}
use Rattle.plan_record.proofs.RecordLaws.{no_record_lem}
use Rattle.plan_record.proofs.TestLaws.{no_cycle, no_sum, part_cycle, part_short, ring_decides}
use Rattle.plan_record.proofs.is_record.Goals as goal

pub returns-then-bytes-lt8 : goal.returns-then-bytes-lt8
returns-then-bytes-lt8 c = sym (no_record_lem _ (λ f. omega (arith, f.long, c.if-bytes-lt8.true)))

pub returns-then-list_at-ne8 : goal.returns-then-list_at-ne8
returns-then-list_at-ne8 c =
    sym (no_record_lem _ (λ f. c.if-list_at-ne8.true (c.field_at-list_at.ensures.value ∙ f.list_at)))

pub returns-then-ring_at-count : goal.returns-then-ring_at-count
returns-then-ring_at-count c =
    sym (no_record_lem _ (λ f. c.if-ring_at-count.true (c.field_at-ring_at.ensures.value ∙ f.ring_at ∙ ap (λ k. 8 + k) (sym c.field_at-count.ensures.value))))

pub returns-then-bytes-ring_at : goal.returns-then-bytes-ring_at
returns-then-bytes-ring_at c =
    sym (no_record_lem _ (λ f. omega (arith, c.field_at-ring_at.ensures.value, f.ring_at, f.inside, c.if-bytes-ring_at.true)))

pub returns-then-adds-eq0 : goal.returns-then-adds-eq0
returns-then-adds-eq0 c =
    sym (no_cycle _ _ _ _ c.field_at-count.ensures.value c.field_at-sum.ensures.value c.if-ring_at-count.false _ c.cycle_sum-adds.ensures c.if-adds-eq0.true)

pub returns-then-adds-sum : goal.returns-then-adds-sum
returns-then-adds-sum c =
    sym (no_sum _ _ _ _ c.field_at-count.ensures.value c.field_at-sum.ensures.value c.if-ring_at-count.false _ c.cycle_sum-adds.ensures c.if-adds-sum.true)

pub returns-then-bytes-ring_at-2 : goal.returns-then-bytes-ring_at-2
returns-then-bytes-ring_at-2 c =
    sym (no_record_lem _ (λ f. c.if-bytes-ring_at-2.true (f.size ∙ ap₂ (λ (i j : ℕ). i + (j + 7) / 8) (sym f.ring_at ∙ sym c.field_at-ring_at.ensures.value) (sym c.field_at-sum.ensures.value))))

pub ring_matches-requires : goal.ring_matches-requires
ring_matches-requires c =
    let b = c.args.bytes.now in
    (part_short b _ _ _ c.field_at-count.ensures.value c.field_at-sum.ensures.value c.if-ring_at-count.false _ c.cycle_sum-adds.ensures c.if-adds-eq0.false c.if-adds-sum.false c.if-bytes-ring_at-2.false, part_cycle b _ _ _ c.field_at-count.ensures.value c.field_at-sum.ensures.value c.if-ring_at-count.false _ c.cycle_sum-adds.ensures c.if-adds-eq0.false)

pub returns : goal.returns
returns c =
    ring_decides _ _ _ _ c.field_at-count.ensures.value c.field_at-sum.ensures.value c.if-ring_at-count.false _ c.cycle_sum-adds.ensures c.if-adds-eq0.false _
    (record { count = (c.field_at-count.ensures.low, c.field_at-count.ensures.high); sum = (c.field_at-sum.ensures.low, c.field_at-sum.ensures.high); list_at = (c.field_at-list_at.ensures.low, c.field_at-list_at.ensures.high); ring_at = (c.field_at-ring_at.ensures.low, c.field_at-ring_at.ensures.high) })
    c.if-bytes-lt8.false (sym c.field_at-list_at.ensures.value ∙ c.if-list_at-ne8.false) (sym c.field_at-ring_at.ensures.value) c.if-bytes-ring_at.false
    c.if-adds-sum.false c.if-bytes-ring_at-2.false c.ring_matches.ensures
