-- Sets of numbers given by a test, and cliques as tests. Assumes nothing.
use mathlib.Core.Path.{◌≡◌, refl, sym, ap, ◌∙◌}
use mathlib.Core.Bool.{Bool, true, false, cond}
use mathlib.Core.Logic.{◌⊎◌, inl, inr}
use mathlib.Core.List.{List, [], ◌∷◌}
use Prim.Native.Nat.{ℕ, zero, suc, ◌+◌, ◌-◌, ◌≤◌, ◌<◌}
use native.Mathlib.Nat.{not-suc-le-zero, le_of_suc-le-suc, eq-or-lt_of_le}
use native.Mathlib.Omega.{arith}
use lib.ListN.{length, get_or}
use Rattle.words.specs.Below.{count_below}
use Rattle.words.proofs.Tests.{nowhere, T_true, true_T}
use Rattle.unit.specs.Table.{Table}
use Rattle.collision.specs.Pipeline.{Forbidden, total}
use Rattle.diagram.specs.States.{Listed, Each, Distinct, has}
use Rattle.diagram.proofs.ListLaws.{has_listed, listed_has}
use Rattle.diagram.proofs.Pigeon.{distinct_fits}
use Rattle.clique.specs.Sets.{Clique}

-- the numbers below n that pass the test, as a list
unfoldable pub passing : ℕ → (ℕ → Bool) → List ℕ
passing zero f = []
passing (suc n) f = cond (f n) (n ∷ passing n f) (passing n f)

pub passing_length : (n : ℕ) (f : ℕ → Bool) → length (passing n f) ≡ count_below n f
unfolding passing count_below
passing_length zero f = refl
passing_length (suc n) f = go (f n) (passing_length n f)
  where
    go : (b : Bool) → length (passing n f) ≡ count_below n f → length (cond b (n ∷ passing n f) (passing n f)) ≡ cond b 1 0 + count_below n f
    go true e = omega arith
    go false e = omega arith

pub record Passing (n : ℕ) (f : ℕ → Bool) (x : ℕ) : Type 0 where
  pub below : x < n
  pub passes : f x ≡ true

passing_wider : (n : ℕ) (f : ℕ → Bool) (x : ℕ) → Passing n f x → Passing (suc n) f x
passing_wider n f x p = record { below = omega (arith, p.below); passes = p.passes }

pub passing_each : (n : ℕ) (f : ℕ → Bool) → Each (Passing n f) (passing n f)
unfolding passing
passing_each zero f = λ i h. absurd (not-suc-le-zero h)
passing_each (suc n) f = go (f n) refl (passing_each n f)
  where
    go : (b : Bool) → f n ≡ b → Each (Passing n f) (passing n f) → Each (Passing (suc n) f) (cond b (n ∷ passing n f) (passing n f))
    go true e r zero h = record { below = omega arith; passes = e }
    go true e r (suc i) h = passing_wider n f (get_or (passing n f) i 0) (r i (le_of_suc-le-suc h))
    go false e r i h = passing_wider n f (get_or (passing n f) i 0) (r i h)

pub passing_distinct : (n : ℕ) (f : ℕ → Bool) → Distinct (passing n f)
unfolding passing
passing_distinct zero f = λ i j h k. absurd (not-suc-le-zero k)
passing_distinct (suc n) f = go (f n) (passing_distinct n f)
  where
    go : (b : Bool) → Distinct (passing n f) → Distinct (cond b (n ∷ passing n f) (passing n f))
    go true d zero zero h k e = not-suc-le-zero h
    go true d zero (suc j) h k e = omega (arith, (passing_each n f j (le_of_suc-le-suc k)).below)
    go true d (suc i) zero h k e = not-suc-le-zero h
    go true d (suc i) (suc j) h k e = d i j (le_of_suc-le-suc h) (le_of_suc-le-suc k) e
    go false d i j h k e = d i j h k e

pub passing_listed : (n : ℕ) (f : ℕ → Bool) (x : ℕ) → x < n → f x ≡ true → Listed x (passing n f)
unfolding passing
passing_listed zero f x h p = absurd (not-suc-le-zero h)
passing_listed (suc n) f x h p = go (f n) refl (eq-or-lt_of_le (le_of_suc-le-suc h)) (λ o. passing_listed n f x o p)
  where
    go : (b : Bool) → f n ≡ b → (x ≡ n) ⊎ (x < n) → (x < n → Listed x (passing n f)) → Listed x (cond b (n ∷ passing n f) (passing n f))
    go true e (inl o) r = record { index = 0; inside = omega arith; found = sym o }
    go true e (inr o) r = let t = r o in record { index = suc t.index; inside = omega (arith, t.inside); found = t.found }
    go false e (inl o) r = nowhere (sym e ∙ ap f (sym o) ∙ p)
    go false e (inr o) r = r o

-- a test of which every two numbers that pass differ by a forbidden latency
pub passing_clique : (T : Table) (q n : ℕ) (f : ℕ → Bool) → ((x y : ℕ) → f x ≡ true → f y ≡ true → x < y → Forbidden T q (y - x)) → Clique T q (passing n f)
passing_clique T q n f d = record {
  distinct = passing_distinct n f;
  differ = λ i j h k l.
      d (get_or (passing n f) i 0) (get_or (passing n f) j 0) (passing_each n f i h).passes (passing_each n f j k).passes l;
}

-- Cliques

-- a number of a list is at most their sum
pub at_most_total : (l : List ℕ) (i : ℕ) → i < length l → get_or l i 0 ≤ total l
at_most_total [] i h = absurd (not-suc-le-zero h)
at_most_total (x ∷ l) zero h = omega arith
at_most_total (x ∷ l) (suc i) h = omega (arith, at_most_total l i (le_of_suc-le-suc h))

-- a clique has no more numbers than the test for its numbers counts
pub clique_count : (T : Table) (q : ℕ) (set : List ℕ) → Clique T q set → length set ≤ count_below (suc (total set)) (λ x. has x set)
clique_count T q set k =
    let n : ℕ = suc (total set) in
    let f : ℕ → Bool = λ x. has x set in
    let fits : length set ≤ length (passing n f) =
    distinct_fits set (passing n f) k.distinct
    (λ i h. passing_listed n f (get_or set i 0) (omega (arith, at_most_total set i h)) (T_true (has (get_or set i 0) set) (listed_has (get_or set i 0) set i h refl))) in
    omega (arith, passing_length n f)

-- the later of two numbers of a clique is a forbidden latency after the earlier
pub clique_differ : (T : Table) (q : ℕ) (set : List ℕ) → Clique T q set → (x t : ℕ) → 1 ≤ t → has x set ≡ true → has (x + t) set ≡ true → Forbidden T q t
clique_differ T q set k x t h p r =
    let i = has_listed x set (true_T p) in
    let j = has_listed (x + t) set (true_T r) in
    let d : get_or set j.index 0 - get_or set i.index 0 ≡ t = omega (arith, i.found, j.found) in
    rw d at (k.differ i.index j.index i.inside j.inside (omega (arith, i.found, j.found)))
