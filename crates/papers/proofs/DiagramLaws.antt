-- A function whose collision vector and states are computed: what answers the questions about it. Assumes nothing.
use mathlib.Core.Path.{◌≡◌, sym, ap, subst, ◌∙◌}
use mathlib.Core.Logic.{◌↔◌}
use mathlib.Core.Bool.{Bool, true, not, ◌&&◌}
use mathlib.Core.List.{List}
use Prim.Native.Nat.{ℕ, ◌+◌, ◌-◌, ◌≤◌, ◌<◌}
use native.Mathlib.Omega.{arith}
use lib.Dec.{leb}
use lib.ListN.{length}
use borrow.Author.Tests.{leb-true, not-true, not-false}
use Rattle.words.specs.Bits.{is_set}
use Rattle.words.specs.Below.{some_below}
use Rattle.words.proofs.Tests.{nowhere, and_left, and_right, and_true, not_passed}
use Rattle.words.proofs.BelowLaws.{some_intro}
use Rattle.unit.specs.Table.{Table}
use Rattle.collision.specs.Pipeline.{Forbidden, total}
use Rattle.collision.specs.Vector.{vector_word}
use Rattle.measures.specs.Inner.{least_free}
use Rattle.collision.specs.Meaning.{Bounded, IsLargest, IsConstant}
use Rattle.measures.proofs.NumberLaws.{least_constant}
use Rattle.collision.proofs.VectorLaws.{vector_bit, largest_span, largest_means, constant_means}
use Rattle.diagram.specs.Diagram.{width, Reachable}
use Rattle.diagram.specs.States.{Listed, Each, Distinct, has, states}
use Rattle.diagram.specs.Cycles.{CycleFrom}
use Rattle.diagram.proofs.Listing.{states_distinct, states_reached, states_complete}
use Rattle.cycles.specs.Greedy.{greedy_cycle, greedy_of}
use Rattle.mean_cycle.specs.Mean.{Floor}
use Rattle.planner.specs.Plans.{Best}
use Rattle.planner.proofs.BestLaws.{best_of}
use Rattle.papers.specs.Rows.{HasStates, BestIs}
use Rattle.papers.proofs.TestLaws.{all, all_has}
use Rattle.papers.proofs.PotentialLaws.{Potential, potential_floor, is_potential, potential_tested, height}
use Rattle.papers.proofs.CycleLaws.{is_first, first_tested, is_cycle, cycle_some, cycle_tested}

-- the collision vector of q is cv, of n columns, and its diagram has the states m
pub record Computed (T : Table) (q cv n : ℕ) (m : List ℕ) : Type 0 where
  pub bounded : Bounded T
  pub vector : vector_word T q ≡ cv
  pub wide : width cv ≡ n
  pub listed : states 256 1 n cv ≡ m
  pub few : leb (length m) 256 ≡ true

-- Tests

-- a column of the vector is 1 and not among the latencies
abbrev pub misses : ℕ → ℕ → List ℕ → Bool
misses n cv latencies = some_below n (λ k. is_set cv k && not (has (k + 1) latencies))

-- the latencies are the columns of the vector that are 1
unfoldable pub are_forbidden : ℕ → ℕ → List ℕ → Bool
unfolding some_below
are_forbidden n cv latencies = all (λ t. is_set cv (t - 1)) latencies && not (misses n cv latencies)

-- the cycle is one of the diagram with the states m, in its first rotation, and there are heights that are a potential for its average
pub record BestTested (n cv : ℕ) (m cycle : List ℕ) (sum : ℕ) : Type 0 where
  pub heights : List (ℕ × ℕ)
  pub closed : is_cycle 1 n cv m cycle ≡ true
  pub potential : is_potential 1 n cv (total cycle) (length cycle) (height heights) m ≡ true
  pub rotation : is_first cycle ≡ true
  pub sums : total cycle ≡ sum

-- What is computed holds of the function

module _ {T : Table} {q cv n : ℕ} {m : List ℕ} (d : Computed T q cv n m) where
  -- what holds of cv and n holds of the vector and its width
  at_vector : (P : ℕ → ℕ → Type 0) → P n cv → P (width (vector_word T q)) (vector_word T q)
  at_vector P h = subst (λ (w : ℕ). P (width w) w) (sym d.vector) (subst (λ (k : ℕ). P k cv) (sym d.wide) h)

  -- Vector and forbidden latencies

  pub largest_computed : IsLargest T q n
  largest_computed = subst (IsLargest T q) (sym (largest_span T q) ∙ ap width d.vector ∙ d.wide) (largest_means T d.bounded q)

  pub forbidden_computed : (latencies : List ℕ) → are_forbidden n cv latencies ≡ true → (t : ℕ) → 1 ≤ t → Forbidden T q t ↔ (has t latencies ≡ true)
  unfolding are_forbidden
  forbidden_computed latencies h t o = (
    (λ f. subst (λ (x : ℕ). has x latencies ≡ true) back (noted (t - 1) (omega (arith, largest_computed.most t o f)) (column.1 f))),
    (λ e. column.0 (all_has (λ x. is_set cv (x - 1)) latencies (and_left (all (λ x. is_set cv (x - 1)) latencies) _ h) t e)),
  )
    where
      back : t - 1 + 1 ≡ t
      back = omega arith

      column : (is_set cv (t - 1) ≡ true) ↔ Forbidden T q t
      column = subst (λ (w : ℕ). (is_set w (t - 1) ≡ true) ↔ Forbidden T q t) d.vector (vector_bit T d.bounded q t o)

      noted : (k : ℕ) → k < n → is_set cv k ≡ true → has (k + 1) latencies ≡ true
      noted k l e =
          let none = not-true (misses n cv latencies) (and_right (all (λ x. is_set cv (x - 1)) latencies) _ h) in
          not-false (has (k + 1) latencies) (not_passed (not (has (k + 1) latencies))
          (λ f. nowhere (sym none ∙ some_intro n (λ j. is_set cv j && not (has (j + 1) latencies)) k l (and_true e f))))

  -- States

  few : length (states 256 1 n cv) ≤ 256
  few = subst (λ (l : List ℕ). length l ≤ 256) (sym d.listed) (leb-true (length m) 256 d.few)

  reached : Each (Reachable 1 n cv) m
  reached = subst (Each (Reachable 1 n cv)) d.listed (states_reached 1 n cv 256)

  pub states_computed : (k : ℕ) → length m ≡ k → HasStates T q k
  states_computed k e = record {
    list = m;
    count = e;
    distinct = subst Distinct d.listed (states_distinct 1 n cv 256);
    reached = at_vector (λ k w. Each (Reachable 1 k w) m) reached;
    all =
        at_vector (λ k w. (s : ℕ) → Reachable 1 k w s → Listed s m)
        (λ s r. subst (Listed s) d.listed (states_complete 1 n cv 256 few s r));
  }

  -- Cycles

  pub greedy_computed : (l : List ℕ) → greedy_cycle 1 n cv ≡ l → greedy_of 1 T q ≡ l
  greedy_computed l e = at_vector (λ k w. greedy_cycle 1 k w ≡ l) e

  pub best_computed : (l : List ℕ) (sum : ℕ) → BestTested n cv m l sum → BestIs T q l sum
  best_computed l sum t =
      let pot = potential_tested 1 n cv (total l) (length l) (height t.heights) m t.potential in
      let floor =
      potential_floor 1 n cv 256 few (total l) (length l) (height t.heights)
      (subst (λ (k : List ℕ). Potential 1 n cv k (total l) (length l) (height t.heights)) (sym d.listed) pot) in
      record {
        best =
            subst (Best 1 T q) (first_tested l t.rotation)
            (best_of T d.bounded q l (cycle_some 1 n cv m l t.closed)
            (at_vector (λ k w. CycleFrom 1 k w l) (cycle_tested 1 n cv m reached l t.closed))
            (at_vector (λ k w. Floor 1 k w (length l) (total l)) floor));
        sums = t.sums;
      }

  -- Constant

  pub constant_computed : (k : ℕ) → least_free cv ≡ k → IsConstant T q k
  constant_computed k e = subst (IsConstant T q) (sym (least_constant T q) ∙ ap least_free d.vector ∙ e) (constant_means T d.bounded q)
