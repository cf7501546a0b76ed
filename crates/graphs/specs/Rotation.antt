-- The rotations of a list.
use Rattle.std.specs.Prelude.{List, ◌++◌, ℕ, take, drop}

-- the same list from its place r on, going round
abbrev pub rotate : {A : Type 0} → List A → ℕ → List A
rotate l r = drop r l ++ take r l
