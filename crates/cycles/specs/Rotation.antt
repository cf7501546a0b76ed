-- Which rotation of a cycle comes first when read as a list of numbers.
use Rattle.std.specs.Prelude.{◌≡◌, Bool, true, false, not, ◌&&◌, ◌||◌, List, [], ◌∷◌, ℕ, ◌<◌, ltb, eqb, length}
use Rattle.words.specs.Below.{some_below, least_from}
use Rattle.graphs.specs.Rotation.{rotate}

-- a comes before b, or is b: the first number in which they differ decides, and a list comes before those that it begins
abbrev pub comes_first : List ℕ → List ℕ → Bool
comes_first [] b = true
comes_first (x ∷ a) [] = false
comes_first (x ∷ a) (y ∷ b) = ltb x y || (eqb x y && comes_first a b)

-- no rotation of l comes before l
abbrev pub LeastRotated : List ℕ → Type 0
LeastRotated l = (r : ℕ) → r < length l → comes_first l (rotate l r) ≡ true

-- rotation r of l comes first among all
unfoldable pub leads : List ℕ → ℕ → Bool
leads l r = not (some_below (length l) (λ k. not (comes_first (rotate l r) (rotate l k))))

-- the least r whose rotation comes first among all; 0 for the empty list
unfoldable pub first_rotation : List ℕ → ℕ
first_rotation l = least_from (length l) 0 (leads l)
