-- Words that hold a graph with a table of arcs: how it is told, and that it is what the search works on. Assumes nothing.
use Rattle.std.proofs.Common.{Some, None}
use mathlib.Core.Path.{◌≡◌, refl, sym, ap, subst, ◌∙◌}
use mathlib.Core.Bool.{Bool, true, false}
use mathlib.Core.List.{List}
use Prim.Native.Nat.{ℕ, ◌+◌, ◌*◌, ◌-◌, ◌^◌, ◌≤◌, ◌<◌}
use native.Mathlib.Nat.{lt_of_lt_of_le}
use native.Mathlib.Omega.{arith}
use lib.ListN.{length, get_or, take, drop, length-drop}
use lib.Pow.{pow_mono}
use Rattle.std.specs.Bool.{MatchBool}
use Rattle.std.specs.List.{AllWithin, HoldsAt}
use Rattle.std.proofs.lemmas.List.{get_or-take, get_or-drop, length-take-le}
use Rattle.words.proofs.Tests.{nowhere}
use Rattle.words.proofs.BitLaws.{bit_above}
use Rattle.diagram.specs.Diagram.{width}
use Rattle.diagram.proofs.WidthLaws.{width_lt, width_top}
use Rattle.mean_cycle.specs.declared.Cycle.{Cycle}
use Rattle.mean_cycle.specs.Mean.{is_found}
use Rattle.mean_cycle.specs.Nodes.{Least}
use Rattle.mean_cycle.specs.Table.{NarrowWords, TargetsInside}
use Rattle.mean_cycle.specs.Inner.{Says, Listing}
use Rattle.mean_cycle.specs.Table.{TableGraph, tabled, TableSearched}

-- The tests

pub says_yes : {P : Type 0} → P → Says true P
says_yes p = record { right = λ e. p; wrong = λ e. nowhere (sym e) }

pub says_no : {P : Type 0} → (P → ⊥) → Says false P
says_no n = record { right = λ e. nowhere e; wrong = λ e. n }

-- a test of every element of a list
says_all : {P : Type 0} (Right Wrong : ℕ → Type 0) (r : Bool) (xs : List ℕ) → MatchBool r (AllWithin Right xs 0 (length xs)) ((k : ℕ) × (k < length xs) × HoldsAt Wrong xs k)
    → (((k : ℕ) → k < length xs → Right (get_or xs k 0)) → P) → ((k : ℕ) → k < length xs → Wrong (get_or xs k 0) → P → ⊥) → Says r P
says_all Right Wrong true xs h f g = says_yes (f (λ k l. h k 0 (omega arith) l))
says_all Right Wrong false xs h f g = says_no (g h.0 h.1 (h.2 0))

module _ (w : List ℕ) (n : ℕ) where
  pub narrow_says : (m : ℕ) (r : Bool) → ((i : ℕ) → get_or w i 0 < 2 ^ 32) → n ≤ length w
      → MatchBool r (AllWithin (λ x. width x ≤ m) (take n w) 0 (length (take n w))) ((k : ℕ) × (k < length (take n w)) × HoldsAt (λ x. m < width x) (take n w) k)
      → Says r (NarrowWords w n m)
  narrow_says m r small room h =
      let size : length (take n w) ≡ n = length-take-le n w room in
      let at : (k : ℕ) → k < n → width (get_or (take n w) k 0) ≡ width (get_or w k 0) = λ k l. ap width (get_or-take n w k 0 l) in
      says_all (λ x. width x ≤ m) (λ x. m < width x) r (take n w) h
      (λ all v l. lt_of_lt_of_le (width_lt (get_or w v 0) (small v)) (pow_mono (omega (arith, at v l, all v (omega arith)))))
      (λ k l wide narrow.
      let u : k < n = omega arith in
      let z = bit_above (get_or w k 0) m (width (get_or w k 0) - 1) (narrow k u) (omega (arith, at k u)) in
      omega (arith, width_top (get_or w k 0) (omega (arith, at k u))))

  pub targets_say : (r : Bool) (k : ℕ) → k ≡ n * 32 → 1792 + k ≤ length w
      → MatchBool r (AllWithin (λ x. x < n) (take k (drop 1792 w)) 0 (length (take k (drop 1792 w)))) ((i : ℕ) × (i < length (take k (drop 1792 w))) × HoldsAt (λ x. n ≤ x) (take k (drop 1792 w)) i)
      → Says r (TargetsInside w n)
  targets_say r k e room h =
      let size : length (take k (drop 1792 w)) ≡ k = length-take-le k (drop 1792 w) (omega (arith, length-drop 1792 w)) in
      let at : (i : ℕ) → i < k → get_or (take k (drop 1792 w)) i 0 ≡ get_or w (1792 + i) 0 =
      λ i l. get_or-take k (drop 1792 w) i 0 l ∙ get_or-drop 1792 w i 0
      in
      says_all (λ x. x < n) (λ x. n ≤ x) r (take k (drop 1792 w)) h
      (λ all i l. omega (arith, at i (omega arith), all i (omega arith)))
      (λ i l out all. omega (arith, at i (omega arith), all i (omega arith)))

-- What the search works on

pub table_listing : {w : List ℕ} {nodes m : ℕ} → TableGraph w nodes m → Listing w (tabled nodes m)
table_listing {w} {nodes} {m} g =
    record {
      few = g.few;
      room = omega (arith, g.room);
      some = g.some;
      narrow = g.slim;
      below = g.narrow;
      source =
          record {
            room = g.room;
            closed = λ i t l p.
                let pos = p.positive in
                let e : 1792 + (i * 32 + (t - 1)) ≡ 1791 + i * 32 + t = omega arith in
                subst (λ (a : ℕ). get_or w a 0 < nodes) e (g.targets (i * 32 + (t - 1)) (omega (arith, p.small, g.slim)));
          };
    }

-- The answers

pub table_no : (nodes m : ℕ) (w : List ℕ) → (TableGraph w nodes m → ⊥) → TableSearched nodes m w w None
table_no nodes m w h =
    record {
      found = λ g. absurd (h g);
      graph = λ e. nowhere e;
      least = λ c e. nowhere (ap is_found e);
      kept = λ e. refl;
    }

pub table_found : (nodes m : ℕ) (w w' : List ℕ) (best : Cycle) → TableGraph w nodes m → Least w w' (tabled nodes m) best
    → TableSearched nodes m w w' (Some best)
table_found nodes m w w' best g l =
    record {
      found = λ g. refl;
      graph = λ e. g;
      least = λ c e. subst (Least w w' (tabled nodes m)) (same c e) l;
      kept = λ e. nowhere (sym (ap is_found e));
    }
  where
    same : (c : Cycle) → Some best ≡ Some c → best ≡ c
    same c e = cc
