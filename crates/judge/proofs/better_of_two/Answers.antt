-- `judge::better_of_two` meets its contract: its tests in turn, and the comparison of the products. Assumes nothing.
use mathlib.Core.Path.{sym}
use native.Mathlib.Omega.{arith}
use lib.Seq.{length-take-le}
use Rattle.words.proofs.Tests.{on, off}
use Rattle.judge.proofs.CycleLaws.{counted_facts, product_fits, better_no_first, better_no_second, better_second, better_first}
use Rattle.judge.proofs.better_of_two.Goals as goal

pub returns-then-not-is_cycle : goal.returns-then-not-is_cycle
returns-then-not-is_cycle c = sym (better_no_first _ _ _ _ (off c.if-not-is_cycle.true-raw c.is_cycle.ensures))

pub returns-then-not-is_cycle-2 : goal.returns-then-not-is_cycle-2
returns-then-not-is_cycle-2 c =
    sym (better_no_second _ _ _ _ (on c.if-not-is_cycle.false-raw c.is_cycle.ensures) (off c.if-not-is_cycle-2.true-raw c.is_cycle-2.ensures))

pub sum_of-first_sum-requires : goal.sum_of-first_sum-requires
sum_of-first_sum-requires c = on c.if-not-is_cycle.false-raw c.is_cycle.ensures

pub sum_of-second_sum-requires : goal.sum_of-second_sum-requires
sum_of-second_sum-requires c = on c.if-not-is_cycle-2.false-raw c.is_cycle-2.ensures

pub overflow_mul-second_sum : goal.overflow_mul-second_sum
overflow_mul-second_sum c = record { fits = product_fits _ _ _ c.sum_of-second_sum.ensures.1 c.sum_of-second_sum.ensures.2 (omega (arith, c.sum_of-first_sum.ensures.2)) }

pub overflow_mul-first_sum : goal.overflow_mul-first_sum
overflow_mul-first_sum c = record { fits = product_fits _ _ _ c.sum_of-first_sum.ensures.1 c.sum_of-first_sum.ensures.2 (omega (arith, c.sum_of-second_sum.ensures.2)) }

pub slice_bounds-result-end-then-second_sum-first_count : goal.slice_bounds-result-end-then-second_sum-first_count
slice_bounds-result-end-then-second_sum-first_count c =
    sym (length-take-le _ _ (counted_facts _ _ (on c.if-not-is_cycle-2.false-raw c.is_cycle-2.ensures)).inside)

pub returns-then-second_sum-first_count : goal.returns-then-second_sum-first_count
returns-then-second_sum-first_count c =
    sym (better_second _ _ _ _ _ _ (on c.if-not-is_cycle.false-raw c.is_cycle.ensures) (on c.if-not-is_cycle-2.false-raw c.is_cycle-2.ensures)
    c.sum_of-first_sum.ensures.0 c.sum_of-second_sum.ensures.0 c.if-second_sum-first_count.true)

pub slice_bounds-result-end-2 : goal.slice_bounds-result-end-2
slice_bounds-result-end-2 c =
    sym (length-take-le _ _ (counted_facts _ _ (on c.if-not-is_cycle.false-raw c.is_cycle.ensures)).inside)

pub returns : goal.returns
returns c =
    sym (better_first _ _ _ _ _ _ (on c.if-not-is_cycle.false-raw c.is_cycle.ensures) (on c.if-not-is_cycle-2.false-raw c.is_cycle-2.ensures)
    c.sum_of-first_sum.ensures.0 c.sum_of-second_sum.ensures.0 c.if-second_sum-first_count.false)
