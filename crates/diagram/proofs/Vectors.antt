-- When a word is the collision vector of a function, and a rival's latencies as the diagram has them. Assumes nothing.
use mathlib.Core.Path.{◌≡◌}
use mathlib.Core.Logic.{◌↔◌}
use mathlib.Core.List.{List, [], ◌∷◌}
use borrow.Author.Tests.{eqb-true, eq-eqb}
use Prim.Native.Nat.{ℕ, zero, suc, ◌-◌, ◌^◌, ◌≤◌, ◌<◌, min}
use Rattle.words.specs.Bits.{bit}
use Rattle.unit.specs.Table.{Table}
use Rattle.collision.specs.Pipeline.{Forbidden, latency}
use Rattle.collision.specs.Vector.{vector_word}
use Rattle.collision.specs.Meaning.{Bounded}
use Rattle.collision.proofs.VectorLaws.{vector_bit, largest_span, vector_fits, largest_means}
use Rattle.diagram.specs.Diagram.{longest, width}

-- cv is the collision vector of q, in n bits: bit t - 1 is 1 exactly for a forbidden t, and none above n is forbidden
pub record IsVector (T : Table) (q cv n : ℕ) : Type 0 where
  pub bits : (t : ℕ) → 1 ≤ t → (bit cv (t - 1) ≡ 1) ↔ Forbidden T q t
  pub fits : cv < 2 ^ n
  pub bound : (t : ℕ) → 1 ≤ t → Forbidden T q t → t ≤ n

-- a latency as the diagram has it: all beyond the longest arc are one
abbrev pub cut : ℕ → ℕ → ℕ → ℕ
cut g n t = min t (longest g n)

-- r latencies of the cycle l repeated, from the i-th on, each cut
abbrev pub cuts : ℕ → ℕ → List ℕ → ℕ → ℕ → List ℕ
cuts g n l i zero = []
cuts g n l i (suc r) = cut g n (latency l i) ∷ cuts g n l (suc i) r

-- the vector's word of a unit's table is one, in as many bits as its width
pub vector_is : (T : Table) → Bounded T → (q : ℕ) → IsVector T q (vector_word T q) (width (vector_word T q))
vector_is T b q = record {
  bits = λ t h. (
    (λ e. (vector_bit T b q t h).0 (eq-eqb (bit (vector_word T q) (t - 1)) 1 e)),
    (λ f. eqb-true (bit (vector_word T q) (t - 1)) 1 ((vector_bit T b q t h).1 f)),
  );
  fits = rw (largest_span T q) (vector_fits T q);
  bound = λ t h f. rw (largest_span T q) ((largest_means T b q).most t h f);
}
