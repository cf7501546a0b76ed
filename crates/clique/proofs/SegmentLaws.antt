-- The columns marked in one segment are a clique, and so no segment has more marks than Bound. Assumes nothing.
use mathlib.Core.Path.{◌≡◌, refl}
use mathlib.Core.Bool.{true}
use Prim.Native.Nat.{ℕ, zero, suc, ◌+◌, ◌-◌, ◌≤◌, ◌<◌, zero-le}
use native.Mathlib.Omega.{arith}
use Rattle.unit.specs.Table.{Table}
use Rattle.unit.specs.Unit.{marked}
use Rattle.unit.specs.Calls.{tag_answer}
use Rattle.collision.specs.Pipeline.{Forbidden}
use Rattle.collision.specs.Vector.{marks_of, bound_of}
use Rattle.collision.specs.Answers.{marks_answer, bound_answer}
use Rattle.collision.specs.Meaning.{Bounded}
use Rattle.collision.proofs.AnswerLaws.{answer_given}
use Rattle.collision.proofs.VectorLaws.{marked_bounded, marks_means}
use Rattle.clique.specs.Sets.{Clique, EveryMarks}
use Rattle.clique.proofs.SetLaws.{passing, passing_length, passing_clique}
use Rattle.clique.proofs.LargestLaws.{clique_most}

-- two marks of one segment
pub segment_differ : (T : Table) (q s x y : ℕ) → T q s x ≡ true → T q s y ≡ true → x < y → Forbidden T q (y - x)
segment_differ T q s x y p r l =
    let e : y ≡ x + (y - x) = omega arith in
    record { segment = s; column = x; later = p; earlier = rw e at r }

-- the columns marked in a segment
pub segment_clique : (T : Table) (q s n : ℕ) → Clique T q (passing n (λ c. T q s c))
segment_clique T q s n = passing_clique T q n (λ c. T q s c) (segment_differ T q s)

-- no segment has more marks than the largest clique has numbers
pub marks_most : (T : Table) → Bounded T → (q : ℕ) → marks_of T q ≤ bound_of T q
marks_most T b q = go (marks_of T q) refl
  where
    go : (n : ℕ) → marks_of T q ≡ n → n ≤ bound_of T q
    go zero e = zero-le
    go (suc m) e =
        let r = (marks_means T b q).reached (omega arith) in
        omega (arith, clique_most T b q (passing 33 (λ c. T q r.0 c)) (segment_clique T q r.0 33), passing_length 33 (λ c. T q r.0 c), r.1)

-- what the calls answer
pub every_marks : EveryMarks
unfolding marks_answer bound_answer
every_marks u q l n d e =
    let marks = (answer_given (tag_answer u q) (marks_of (marked u) q) l d).value in
    let bound = (answer_given (tag_answer u q) (bound_of (marked u) q) n e).value in
    omega (arith, marks_most (marked u) (marked_bounded u) q)
