-- What the private functions find, from a vector's word and from the intervals of a cycle. No public contract cites this file.
use Rattle.std.specs.Prelude.{Bool, List, ℕ, ◌+◌, ◌-◌, length}
use Rattle.words.specs.Bits.{is_set}
use Rattle.words.specs.Below.{some_below}
use Rattle.collision.specs.Pipeline.{start_at}

-- the vector has a 1 for the interval from the start i of a cycle to one of the 32 starts after it
unfoldable pub start_meets : ℕ → List ℕ → ℕ → Bool
start_meets vector l i = some_below 32 (λ k. is_set vector (start_at l (i + k + 1) - start_at l i - 1))

-- it has a 1 for such an interval from some start of the first turn
unfoldable pub turn_meets : ℕ → List ℕ → Bool
turn_meets vector l = some_below (length l) (start_meets vector l)
