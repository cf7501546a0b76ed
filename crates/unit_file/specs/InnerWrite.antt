-- What the private functions ask and leave. No public contract cites this file.
use Rattle.std.specs.Prelude.{ℕ, ◌+◌, ◌*◌, ◌≤◌, Bool, List, [], ◌∷◌, ◌++◌, length, get_or, take, drop}
use Rattle.words.specs.Bits.{is_set}
use Rattle.words.specs.Below.{word_below, join_below}
use Rattle.unit.specs.Table.{Table}
use Rattle.unit_file.specs.File.{bytes32, table_bytes}

-- bytes whose front is overwritten by l
abbrev pub in_front : List ℕ → List ℕ → List ℕ
in_front l bytes = l ++ drop (length l) bytes

-- bytes that are overwritten by l from a place on
abbrev pub in_from : ℕ → List ℕ → List ℕ → List ℕ
in_from at l bytes = take at bytes ++ in_front l (drop at bytes)

-- the four bytes of the counts
abbrev pub head_bytes : ℕ → ℕ → ℕ → List ℕ
head_bytes f s c = f ∷ s ∷ c ∷ 0 ∷ []

-- the counts of a sound unit
pub record Counts (f s : ℕ) : Type 0 where
  pub functions : f ≤ 4
  pub segments : s ≤ 16

-- where the tables after the first k begin
abbrev pub after_tables : ℕ → ℕ → ℕ → ℕ
after_tables f s k = 4 + 2 * f + 4 * s * k

-- column i has a mark in segment r, both counted from 0
abbrev pub column_mark : List ℕ → ℕ → ℕ → Bool
column_mark columns r i = is_set (get_or columns i 0) r

-- the word of a segment: each column's word has one bit of it
abbrev pub columns_word : List ℕ → ℕ → ℕ
columns_word columns r = word_below 32 (column_mark columns r)

-- a table, from a function's columns
unfoldable pub columns_bytes : List ℕ → ℕ → List ℕ
columns_bytes columns s = join_below s (λ r. bytes32 (columns_word columns r))

-- all tables, one after the other
unfoldable pub tables_bytes : Table → ℕ → ℕ → List ℕ
tables_bytes T s f = join_below f (λ i. table_bytes T s (i + 1))
