-- A clash of two tasks is a collision at the time between their starts. Assumes nothing.
use mathlib.Core.Path.{◌≡◌, refl}
use mathlib.Core.Logic.{◌↔◌}
use mathlib.Core.List.{List}
use Prim.Native.Nat.{ℕ, ◌+◌, ◌-◌, ◌≤◌, ◌<◌}
use native.Mathlib.Nat.{le_refl, le_of_lt}
use native.Mathlib.Decide.{le_ind}
use native.Mathlib.Omega.{arith}
use Rattle.unit.specs.Table.{Table}
use Rattle.collision.specs.Pipeline.{Task, Clash, Collides, Forbidden, start_at, task_at, NeverCollides}

-- a task y started t after the task x clashes with it exactly when y's function, started t after x's, collides with it
pub clash_collides : (T : Table) (x y : Task) (t : ℕ) → y.start ≡ x.start + t → Clash T x y ↔ Collides T y.tag x.tag t
clash_collides T x y t e = (there, back)
  where
    there : Clash T x y → Collides T y.tag x.tag t
    there c =
        let h : c.one.column ≡ c.other.column + t = omega (arith, c.one.moment, c.other.moment) in
        record { segment = c.segment; column = c.other.column; later = c.other.marked; earlier = rw h at c.one.marked }

    back : Collides T y.tag x.tag t → Clash T x y
    back c = record {
      segment = c.segment;
      time = y.start + c.column;
      one = record { column = c.column + t; marked = c.earlier; moment = omega arith };
      other = record { column = c.column; marked = c.later; moment = refl };
    }

-- the starts of a cycle never go back
pub start_at_mono : (l : List ℕ) (i j : ℕ) → i ≤ j → start_at l i ≤ start_at l j
start_at_mono l i j h = le_ind (λ (m : ℕ). start_at l i ≤ start_at l m) (le_refl (start_at l i)) (λ m k e. omega arith) j h

-- a cycle never collides exactly when no time between two of its starts is forbidden
pub never_forbidden : (T : Table) (q : ℕ) (l : List ℕ)
    → NeverCollides T q l ↔ ((i j : ℕ) → i < j → Forbidden T q (start_at l j - start_at l i) → ⊥)
never_forbidden T q l = (λ h i j k f. h i j k ((same i j k).1 f), λ h i j k c. h i j k ((same i j k).0 c))
  where
    same : (i j : ℕ) → i < j → Clash T (task_at q l i) (task_at q l j) ↔ Forbidden T q (start_at l j - start_at l i)
    same i j k =
        clash_collides T (task_at q l i) (task_at q l j) (start_at l j - start_at l i) (omega (arith, start_at_mono l i j (le_of_lt k)))
