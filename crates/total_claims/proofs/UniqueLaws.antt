-- A list of tables has one set of totals, whichever best cycles are taken. Assumes nothing.
use Prim.Native.Nat.{ℕ, ◌*◌, ◌≤◌, ◌<◌}
use mathlib.Core.Path.{◌≡◌, sym, ap, ◌∙◌}
use mathlib.Core.Bool.{true}
use mathlib.Core.List.{List}
use native.Mathlib.Nat.{le_antisymm, le_of_eq}
use native.Mathlib.Decide.{dec_lt}
use native.Mathlib.Omega.{arith}
use lib.ListN.{length}
use borrow.Author.Tests.{eq-eqb, eqb-true}
use Rattle.words.proofs.Tests.{same_test}
use Rattle.words.proofs.BelowLaws.{count_same}
use Rattle.unit.specs.Table.{Table}
use Rattle.collision.specs.Pipeline.{total}
use Rattle.collision.specs.Vector.{bound_of}
use Rattle.planner.proofs.BestLaws.{same_average}
use Rattle.table_numbers.specs.Tables.{nth_table}
use Rattle.table_totals.specs.declared.SizeTotals.{SizeTotals}
use Rattle.table_totals.specs.Totals.{BestCycles, at_bound, TotalsBy}
use Rattle.total_claims.specs.Claims.{OneTotals, ByAny}
use Rattle.table_totals.proofs.FractionLaws.{at_most, below, same, lowest_unique}

-- Other best cycles

bound_kept : (T : Table) (a b : List ℕ) → 1 ≤ length a → total b * length a ≡ total a * length b → at_bound T a ≡ true → at_bound T b ≡ true
bound_kept T a b pos e h =
    let bound : ℕ = bound_of T 1 in
    let at : total a * 1 ≡ bound * length a = omega (arith, eqb-true (total a) (bound * length a) h) in
    let there : total b * 1 ≡ bound * length b = same (total b) (length b) (total a) (length a) bound 1 pos e at in
    eq-eqb (total b) (bound * length b) (omega arith)

module _ (L : List Table) (a b : ℕ → List ℕ) (fa : BestCycles L a) (fb : BestCycles L b) where
  equal : (n : ℕ) → n < length L → total (b n) * length (a n) ≡ total (a n) * length (b n)
  equal n l = same_average 1 (nth_table L n) 1 (b n) (a n) (fb n l) (fa n l)

  some_a : (n : ℕ) → n < length L → 1 ≤ length (a n)
  some_a n l = (fa n l).latencies.nonempty

  some_b : (n : ℕ) → n < length L → 1 ≤ length (b n)
  some_b n l = (fb n l).latencies.nonempty

  -- the totals over one choice of best cycles are those over every other
  pub totals_moved : (t : SizeTotals) → TotalsBy L a t → TotalsBy L b t
  totals_moved t o = record {
    tables = o.tables;
    reaching = o.reaching ∙ count_same (length L) (λ n. at_bound (nth_table L n) (a n)) (λ n. at_bound (nth_table L n) (b n))
        (λ n l. same_test (at_bound (nth_table L n) (a n)) (at_bound (nth_table L n) (b n))
        (bound_kept (nth_table L n) (a n) (b n) (some_a n l) (equal n l))
        (bound_kept (nth_table L n) (b n) (a n) (some_b n l) (sym (equal n l))));
    largest = λ n l. at_most (total (b n)) (length (b n)) (total (a n)) (length (a n)) t.numerator t.denominator (some_a n l) (le_of_eq (equal n l)) (o.largest n l);
    lowest = o.lowest;
    first = o.first;
    reached = let l = o.first in
        same (total (b t.first)) (length (b t.first)) (total (a t.first)) (length (a t.first)) t.numerator t.denominator
        (some_a t.first l) (equal t.first l) o.reached;
    earlier = λ n h. let l : n < length L = omega (arith, o.first) in
        below (total (b n)) (length (b n)) (total (a n)) (length (a n)) t.numerator t.denominator (some_b n l) (le_of_eq (equal n l)) (o.earlier n h);
  }

-- One choice

same_totals : (t u : SizeTotals) → t.tables ≡ u.tables → t.reaching ≡ u.reaching → t.numerator ≡ u.numerator → t.denominator ≡ u.denominator
    → t.first ≡ u.first → t ≡ u
same_totals t u e1 e2 e3 e4 e5 = λ i. record { tables = e1 i; reaching = e2 i; numerator = e3 i; denominator = e4 i; first = e5 i }

module _ (L : List Table) (a : ℕ → List ℕ) (f : BestCycles L a) where
  -- the largest average of one is no more than that of the other
  no_more_lem : (t u : SizeTotals) → TotalsBy L a t → TotalsBy L a u → u.numerator * t.denominator ≤ t.numerator * u.denominator
  no_more_lem t u ot ou =
      let j = u.first in
      at_most u.numerator u.denominator (total (a j)) (length (a j)) t.numerator t.denominator (f j ou.first).latencies.nonempty
      (le_of_eq (sym ou.reached)) (ot.largest j ou.first)

  -- nor does it come first at a smaller number
  not_before : (t u : SizeTotals) → TotalsBy L a t → TotalsBy L a u → u.numerator ≡ t.numerator → u.denominator ≡ t.denominator → t.first < u.first → ⊥
  not_before t u ot ou p q l =
      let i = t.first in
      let x : total (a i) * u.denominator ≡ u.numerator * length (a i) = ap (λ d. total (a i) * d) q ∙ ot.reached ∙ ap (λ d. d * length (a i)) (sym p) in
      omega (arith, ou.earlier i l)

  over_unique : (t u : SizeTotals) → TotalsBy L a t → TotalsBy L a u → t ≡ u
  over_unique t u ot ou =
      let e : u.numerator * t.denominator ≡ t.numerator * u.denominator = le_antisymm (no_more_lem t u ot ou) (no_more_lem u t ou ot) in
      let w = lowest_unique t.numerator t.denominator u.numerator u.denominator ot.lowest ou.lowest e in
      same_totals t u (ot.tables ∙ sym ou.tables) (ot.reaching ∙ sym ou.reaching) (sym w.0) (sym w.1)
      (go w.0 w.1 (dec_lt t.first u.first) (dec_lt u.first t.first))
    where
      go : u.numerator ≡ t.numerator → u.denominator ≡ t.denominator → Dec (t.first < u.first) → Dec (u.first < t.first) → t.first ≡ u.first
      go p q (yes l) d = absurd (not_before t u ot ou p q l)
      go p q (no n) (yes l) = absurd (not_before u t ou ot (sym p) (sym q) l)
      go p q (no n) (no m) = omega arith

-- What is claimed

pub by_any : ByAny
by_any L t x best f = totals_moved L x.best best x.bests f t x.by

pub one_totals : OneTotals
one_totals L t u x y = over_unique L y.best y.bests t u (by_any L t x y.best y.bests) y.by
