-- Collision vector and matrix rows held in words, and the numbers that go with them.
use Rattle.std.specs.Prelude.{◌≡◌, Bool, true, not, ◌&&◌, List, ℕ, ◌+◌, ◌%◌, ◌≤◌, eqb, get_or}
use Rattle.words.specs.Bits.{is_set}
use Rattle.words.specs.Below.{some_below, count_below, span_below, max_below, least_from, word_below}
use Rattle.clique_size.specs.Largest.{largest_clique}
use Rattle.unit.specs.Table.{Table}

-- whether q, started t after r, would collide, as a test: segments are 1 to 16, columns 1 to 32
unfoldable pub collides : Table → ℕ → ℕ → ℕ → Bool
collides T q r t = some_below 17 (λ s. some_below 33 (λ c. T q s c && T r s (c + t)))

-- row q of the matrix M_r: column t is bit t - 1, and all other bits are 0
unfoldable pub row_word : Table → ℕ → ℕ → ℕ
row_word T q r = word_below 32 (λ k. collides T q r (k + 1))

-- the same row from the marks of two functions by column, word c - 1 for column c, in which bit s - 1 is segment s
-- (`row_columns`, proofs/RowLaws.antt)

-- two columns have a mark in one segment
unfoldable pub meet : ℕ → ℕ → Bool
meet a b = some_below 16 (λ s. is_set a s && is_set b s)

-- some column of the later function meets the column of the earlier one that is t further on
unfoldable pub shared : List ℕ → List ℕ → ℕ → Bool
shared later earlier t = some_below 32 (λ c. meet (get_or later c 0) (get_or earlier (c + t) 0))

unfoldable pub row_of_columns : List ℕ → List ℕ → ℕ
row_of_columns later earlier = word_below 32 (λ k. shared later earlier (k + 1))

-- the collision vector of q: c_t is bit t - 1
abbrev pub vector_word : Table → ℕ → ℕ
vector_word T q = row_word T q q

-- n, the largest forbidden latency, or 0
unfoldable pub largest_forbidden : Table → ℕ → ℕ
largest_forbidden T q = span_below 32 (λ k. collides T q q (k + 1))

-- the largest column with a 1 in any matrix of a unit, or 0 (`column_means`, proofs/MatrixLaws.antt)
unfoldable pub largest_column : Table → ℕ
largest_column T = max_below 5 (λ q. max_below 5 (λ r. span_below 32 (λ k. collides T q r (k + 1))))

pub record IsLargestColumn (T : Table) (n : ℕ) : Type 0 where
  pub most : (q r t : ℕ) → q ≤ 4 → r ≤ 4 → 1 ≤ t → t ≤ 32 → collides T q r t ≡ true → t ≤ n
  pub reached : 1 ≤ n → (q r : ℕ) × (collides T q r n ≡ true)

-- Marks: the largest number of marks in one segment
unfoldable pub marks_of : Table → ℕ → ℕ
marks_of T q = max_below 17 (λ s. count_below 33 (λ c. T q s c))

-- Bound: the size of the largest set of whole numbers in which every two differ by a forbidden latency; a set of one always counts (what it means, and
-- the paper's reading: `IsLargestClique` and `IsRowMaximum`, crate clique)
unfoldable pub bound_of : Table → ℕ → ℕ
bound_of T q = largest_clique (vector_word T q)

-- Upper: the number of 1s in the collision vector, plus 1
unfoldable pub upper_of : Table → ℕ → ℕ
upper_of T q = count_below 32 (is_set (vector_word T q)) + 1

-- no multiple of m is forbidden
unfoldable pub suits : Table → ℕ → ℕ → Bool
suits T q m = not (some_below 32 (λ k. eqb ((k + 1) % m) 0 && collides T q q (k + 1)))

-- Constant: the least latency m such that no multiple of m is forbidden
unfoldable pub constant_of : Table → ℕ → ℕ
constant_of T q = least_from 32 1 (suits T q)
