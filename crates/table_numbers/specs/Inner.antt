-- What the private functions ask and find. No public contract cites this file.
use Rattle.std.specs.Prelude.{ℕ, ◌+◌, ◌-◌, ◌*◌, ◌≤◌, ◌&&◌, ltb}
use Rattle.words.specs.Bits.{is_set}
use Rattle.words.specs.Below.{word_below}
use Rattle.unit.specs.declared.FunctionUnit.{FunctionUnit}
use Rattle.unit.specs.Table.{Table}
use Rattle.unit.specs.Calls.{unit_of}
use Rattle.table_numbers.specs.Tables.{small_table}

-- a size, as facts
pub record Sized (s c : ℕ) : Type 0 where
  pub segments1 : 1 ≤ s
  pub segments2 : s ≤ 2
  pub columns1 : 1 ≤ c
  pub columns6 : c ≤ 6

-- the marks of the first i segments in column k, bit r - 1 for segment r
unfoldable pub column_word : ℕ → ℕ → ℕ → ℕ → ℕ
column_word i c n k = word_below i (λ j. is_set n (j * c + (k - 1)))

-- the table of a number up to, and not with, column k
unfoldable pub table_before : ℕ → ℕ → ℕ → ℕ → Table
table_before s c n k x y z = small_table s c n x y z && ltb z k

abbrev pub unit_before : ℕ → ℕ → ℕ → ℕ → FunctionUnit
unit_before s c n k = unit_of 1 s c (table_before s c n k)
