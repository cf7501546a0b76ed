-- A number as a byte.
use Rattle.std.specs.Prelude.{cond, ℕ, ltb}

-- a number too large for a byte becomes 0, which is no count, no tag, no segment, no column and no latency
abbrev pub narrow : ℕ → ℕ
narrow n = cond (ltb n 256) n 0
