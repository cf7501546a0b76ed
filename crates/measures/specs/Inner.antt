-- What the private functions find, from the columns of a function and from a vector's word. No public contract cites this file.
use Rattle.std.specs.Prelude.{Bool, not, ◌&&◌, List, ℕ, ◌+◌, ◌%◌, eqb, get_or}
use Rattle.words.specs.Bits.{is_set}
use Rattle.words.specs.Below.{some_below, count_below, max_below, least_from}

-- the number of marks at a bit of the columns
unfoldable pub marks_at : List ℕ → ℕ → ℕ
marks_at columns bit = count_below 32 (λ c. is_set (get_or columns c 0) bit)

-- the largest of these numbers
unfoldable pub most_marks : List ℕ → ℕ
most_marks columns = max_below 16 (marks_at columns)

-- no column of the vector that is a multiple of m is 1
unfoldable pub free_of : ℕ → ℕ → Bool
free_of vector m = not (some_below 32 (λ k. eqb ((k + 1) % m) 0 && is_set vector k))

-- the least such m
unfoldable pub least_free : ℕ → ℕ
least_free vector = least_from 32 1 (free_of vector)
