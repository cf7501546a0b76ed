-- What the search of the diagram finds is the best cycle, in the rotation that comes first; any two best cycles have the same average. Assumes nothing.
use Prim.Native.Nat.{ℕ, ◌*◌, ◌≤◌, ◌<◌}
use mathlib.Core.List.{List}
use native.Mathlib.Nat.{mul_comm, le_of_lt, le_refl, le_antisymm}
use native.Mathlib.Omega.{arith}
use lib.ListN.{length}
use Rattle.unit.specs.Table.{Table}
use Rattle.collision.specs.Pipeline.{total}
use Rattle.collision.specs.Meaning.{Bounded}
use Rattle.collision.specs.Vector.{vector_word}
use Rattle.diagram.specs.Diagram.{width}
use Rattle.diagram.specs.Cycles.{CycleFrom}
use Rattle.diagram.proofs.Vectors.{vector_is}
use Rattle.diagram.proofs.Sound.{sound, walk_cycle}
use Rattle.diagram.proofs.Rival.{rival}
use Rattle.graphs.specs.Rotation.{rotate}
use Rattle.cycles.specs.Rotation.{first_rotation}
use Rattle.graphs.proofs.Rotations.{rotate_length, rotate_total}
use Rattle.cycles.proofs.RotationLaws.{rotate_cycle}
use Rattle.cycles.proofs.OrderLaws.{rotate_least, first_inside}
use Rattle.mean_cycle.specs.Mean.{Floor}
use Rattle.planner.specs.Plans.{Best, SameAverage}
use Rattle.planner.specs.Inner.{in_first_rotation}

-- a cycle of the diagram below which no walk goes, but for a bounded part, is best, in its first rotation
pub best_of : (T : Table) → Bounded T → (q : ℕ) (l : List ℕ) → 1 ≤ length l
    → CycleFrom 1 (width (vector_word T q)) (vector_word T q) l
    → Floor 1 (width (vector_word T q)) (vector_word T q) (length l) (total l)
    → Best 1 T q (in_first_rotation l)
best_of T b q l some c floor =
    let r = first_rotation l in
    let v = vector_is T b q in
    let inside : r ≤ length l = le_of_lt (first_inside l some) in
    let n = rotate_length l r in
    let s = rotate_total l r in
    let turned = rotate_cycle 1 (width (vector_word T q)) (vector_word T q) l r c inside in
    let long : 0 < length (rotate l r) = omega arith in
    record {
      latencies = walk_cycle turned.closed long;
      diagram = turned;
      rotation = rotate_least l;
      never = sound T q 1 (width (vector_word T q)) (vector_word T q) turned.state (rotate l r) v turned.reached turned.closed long;
      least = λ other o never.
          let h : total l * length other ≤ length l * total other =
          rival T q 1 (width (vector_word T q)) (vector_word T q) v (le_refl 1) (total l) (length l) floor.bound floor.every other o never in
          rw (n, s) (omega (arith, h, mul_comm (length l) (total other)));
    }

-- each is a rival of the other
pub same_average : SameAverage
same_average g T q a b h k = le_antisymm (h.least b k.latencies k.never) (k.least a h.latencies h.never)
