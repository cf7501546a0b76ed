-- Tables of marks.
use Rattle.std.specs.Prelude.{ℕ, Bool, false, cond, ◌&&◌, eqb}

-- `T q s c`: a task of the function q occupies segment s in column c, the c-th time unit after its start
abbrev pub Table : Type 0
Table = ℕ → ℕ → ℕ → Bool

abbrev pub empty : Table
empty q s c = false

-- the table with the mark of q at segment s in column c set (true) or cleared (false), and every other as before
abbrev pub changed : Table → ℕ → ℕ → ℕ → Bool → Table
changed T q s c b x y z = cond (eqb x q && (eqb y s && eqb z c)) b (T x y z)
