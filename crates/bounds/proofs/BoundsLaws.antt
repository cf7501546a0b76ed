-- Every best cycle and every greedy cycle meet the bounds. Assumes nothing.
use Rattle.std.proofs.Common.{Ok, Err}
use mathlib.Core.Path.{◌≡◌, refl, ap, ◌∙◌, subst}
use mathlib.Core.Bool.{Bool, true, false}
use mathlib.Core.List.{List, ◌∷◌}
use Prim.Native.Nat.{ℕ, suc, ◌+◌, ◌*◌, ◌≤◌}
use native.Mathlib.Nat.{add-mul, suc-mul, mul_comm, mul_assoc, mul-le-mul_right}
use native.Mathlib.Omega.{arith}
use lib.Dec.{leb}
use lib.ListN.{length}
use borrow.Author.Tests.{leb-true}
use Rattle.unit.specs.declared.Refusal.TheVariants.{ShortWork, ShortOutput, TooManyStates}
use Rattle.unit.specs.Answers.{Answer}
use Rattle.unit.specs.Table.{Table}
use Rattle.unit.specs.Unit.{marked}
use Rattle.unit.specs.Calls.{check, and_then, tag_answer}
use Rattle.collision.specs.Pipeline.{Cycle, total, NeverCollides}
use Rattle.collision.specs.Vector.{vector_word, marks_of, upper_of}
use Rattle.collision.specs.Meaning.{Bounded}
use Rattle.collision.proofs.VectorLaws.{marked_bounded, row_lt}
use Rattle.diagram.specs.Diagram.{width, longest}
use Rattle.diagram.specs.Answers.{states_of}
use Rattle.diagram.proofs.Sound.{walk_cycle}
use Rattle.diagram.proofs.Vectors.{vector_is}
use Rattle.cycles.specs.declared.Counted.{Counted}
use Rattle.cycles.specs.Greedy.{greedy_of, greedy_refusal, counting, greedy_answer}
use Rattle.cycles.proofs.GreedyLaws.{greedy_cycle_lem, greedy_never}
use Rattle.clique.proofs.LowerLaws.{per_turn, lower_bound}
use Rattle.clique.proofs.SegmentLaws.{marks_most}
use Rattle.planner.specs.Plans.{Best}
use Rattle.bounds.specs.Bounds.{ones_of, InBounds, EveryGreedy}
use Rattle.bounds.proofs.UpperLaws.{upper_greedy, eagerly, eagerly_length, rival_cycle, rival_never, rival_total}

never : {A : Type 0} → ◌≡◌ {A = ℕ} 0 1 → A
never e = absurd (omega arith)

-- the number that is printed as upper
pub upper_printed : (T : Table) (q : ℕ) → upper_of T q ≡ ones_of (vector_word T q) + 1
unfolding upper_of
upper_printed T q = refl

module _ (T : Table) (b : Bounded T) (q g : ℕ) (pos : 1 ≤ g) where
  -- S ≤ (u + g) × K, where no rival has a smaller average
  pub upper_least : (l : List ℕ) → ((rival : List ℕ) → Cycle g rival → NeverCollides T q rival → total l * length rival ≤ total rival * length l)
      → total l ≤ (ones_of (vector_word T q) + g) * length l
  upper_least l least =
      let cv : ℕ = vector_word T q in
      let n : ℕ = width cv in
      let per : ℕ = ones_of cv + g in
      let once : ℕ = longest g n + ones_of cv in
      let e : ℕ = once * length l in
      let rival : List ℕ = longest g n ∷ eagerly g n cv e cv in
      let is = vector_is T b q in
      let size : length rival ≡ suc e = ap suc (eagerly_length g n cv e cv) in
      let compared : total l * suc e ≤ total rival * length l =
      subst (λ m. total l * m ≤ total rival * length l) size
      (least rival (rival_cycle T q g n cv is pos (row_lt T q q) e) (rival_never T q g n cv is pos (row_lt T q q) e)) in
      let paid : total rival * length l ≤ (once + per * e) * length l = mul-le-mul_right (length l) (rival_total T q g n cv is pos (row_lt T q q) e) in
      let split : (once + per * e) * length l ≡ e + per * e * length l = add-mul once (per * e) (length l) in
      let turned : per * e * length l ≡ e * (per * length l) = ap (λ x. x * length l) (mul_comm per e) ∙ mul_assoc e per (length l) in
      per_turn (total l) (per * length l) e
      (omega (arith, mul_comm (suc e) (total l), suc-mul e (per * length l)))

  pub best_bounds : (l : List ℕ) → Best g T q l → InBounds g T q (length l) (total l)
  best_bounds l best = record {
    lower = lower_bound T b q g l pos best.latencies best.never;
    upper = upper_least l best.least;
  }

  -- the greedy cycle, where its call is not refused by 7
  pub greedy_bounds : length (states_of g T q) ≤ 256 → InBounds g T q (length (greedy_of g T q)) (total (greedy_of g T q))
  greedy_bounds few =
      let cv : ℕ = vector_word T q in
      let n : ℕ = width cv in
      let s = greedy_cycle_lem g n cv few in
      let c : Cycle g (greedy_of g T q) = walk_cycle s.cycle.closed s.some in
      let never = greedy_never T q g n cv (vector_is T b q) few in
      record {
        lower = lower_bound T b q g (greedy_of g T q) pos c never;
        upper = upper_greedy g n cv pos (row_lt T q q);
      }

  -- what is in bounds is so with the marks of one segment too: l × K ≤ S
  pub in_bounds_marks : (K S : ℕ) → InBounds g T q K S → marks_of T q * K ≤ S
  in_bounds_marks K S i = omega (arith, mul-le-mul_right K (marks_most T b q), i.lower)

-- what the call answers
pub every_greedy : EveryGreedy
unfolding greedy_answer greedy_refusal
every_greedy u q room out c e = go (tag_answer u q) (leb 16000 room) (leb 256 out) (leb (length (states_of 1 (marked u) q)) 256) refl e
  where
    go : (a : Answer) (x y z : Bool) → leb (length (states_of 1 (marked u) q)) 256 ≡ z
        → counting (and_then a (check x ShortWork (check y ShortOutput (check z TooManyStates (Ok tt))))) (greedy_of 1 (marked u) q) ≡ Ok c
        → InBounds 1 (marked u) q c.count c.sum
    go (Ok _) true true true h e =
        let same : ◌≡◌ {A = Counted} (record { count = length (greedy_of 1 (marked u) q); sum = total (greedy_of 1 (marked u) q) }) c = cc in
        subst (λ (d : Counted). InBounds 1 (marked u) q d.count d.sum) same
        (greedy_bounds (marked u) (marked_bounded u) q 1 (omega arith) (leb-true (length (states_of 1 (marked u) q)) 256 h))
    go (Ok _) false y z h e = never (cc)
    go (Ok _) true false z h e = never (cc)
    go (Ok _) true true false h e = never (cc)
    go (Err why) x y z h e = never (cc)
