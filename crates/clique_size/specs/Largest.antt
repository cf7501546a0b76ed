-- The size of the largest set of whole numbers in which every two differ by a forbidden latency (a clique), from the word of the forbidden latencies: bit
-- t - 1 is 1 where t is forbidden, as in a collision vector.
use Rattle.std.specs.Prelude.{cond, ℕ, zero, suc, ◌/◌, max}
use Rattle.std.specs.Int.Bits.{bit_and}
use Rattle.words.specs.Bits.{is_set}

-- Of the numbers below n whose bit is 1 in w, the most of which every two differ by a latency forbidden in v. The number 0 is left out or, if it is one of
-- them, taken. The others stand in w / 2, each counted from 1 on; beside 0 only those are left that differ from it by a forbidden latency.
unfoldable pub most_of : ℕ → ℕ → ℕ → ℕ
most_of zero v w = 0
most_of (suc n) v w =
    let without : ℕ = most_of n v (w / 2) in
    let either : ℕ = max (suc (most_of n v (bit_and (w / 2) v))) without in
    cond (is_set w 0) either without

-- the least number of the set, which always counts, and the most of those that are a forbidden latency above it (`widest` and `count_largest`,
-- proofs/MostLaws.antt)
unfoldable pub largest_clique : ℕ → ℕ
largest_clique v = suc (most_of 32 v v)
