-- The tables of a list taken one after the other. Assumes nothing.
use Prim.Native.Nat.{ℕ, ◌+◌, ◌*◌, ◌^◌, ◌≤◌, ◌<◌}
use mathlib.Core.Path.{◌≡◌, refl, sym, ap, ◌∙◌, subst}
use mathlib.Core.Bool.{Bool, true, false, cond}
use mathlib.Core.Logic.{◌⊎◌, inl, inr}
use mathlib.Core.List.{List}
use native.Mathlib.Nat.{le_refl, le_of_eq, eq-or-lt_of_le, mul-le-mul}
use native.Mathlib.Decide.{dec_lt}
use native.Mathlib.Omega.{arith}
use lib.Dec.{eqb}
use lib.ListN.{length}
use lib.Pow.{pow_mono}
use borrow.Author.Tests.{eq-eqb, ne_eqb}
use Rattle.words.specs.Below.{count_below}
use Rattle.words.proofs.BelowLaws.{count_same, count_more, count_most}
use Rattle.collision.specs.Pipeline.{total}
use Rattle.unit.specs.Table.{Table}
use Rattle.planner.specs.Plans.{Best}
use Rattle.table_numbers.specs.Tables.{nth_table}
use Rattle.table_numbers.proofs.FillLaws.{sized, few_places}
use Rattle.table_totals.specs.declared.Average.{Average}
use Rattle.table_totals.specs.declared.Tally.{Tally}
use Rattle.table_totals.specs.Totals.{at_bound, TotalsOver}
use Rattle.table_totals.specs.Inner.{Prepared, Used, Measured, TalliedBy, Tallied, Added, Reduced}
use Rattle.table_totals.proofs.FractionLaws.{at_most, below, below_most}

abbrev first_tally : Average → Tally
first_tally a = record { reaching = a.reaching; sum = a.sum; count = a.count; first = 0 }

pub tally_start : {L : List Table} {before words : List ℕ} (a : Average) → Measured L 0 before words a → Tallied L 1 (first_tally a)
unfolding count_below
tally_start {L} a m = record {
  best = λ n. m.cycle;
  by = record {
    bests = λ n l. let z : 0 ≡ n = omega arith in subst (λ k. Best 1 (nth_table L k) 1 m.cycle) z m.best;
    reaching = omega (arith, m.reaching);
    inside = omega arith;
    sum = m.sum;
    count = m.count;
    fitting = m.fitting;
    largest = λ n l. rw (m.sum, m.count) (le_refl _);
    earlier = λ n l. absurd (omega arith);
  };
}

module _ {L : List Table} {n : ℕ} {t : Tally} {before words : List ℕ} {a : Average} (all : Tallied L n t) (one : Measured L n before words a) where
  -- the cycles so far, and the next
  cycles : ℕ → List ℕ
  cycles m = cond (eqb m n) one.cycle (all.best m)

  cycles_next : (m : ℕ) → m ≡ n → cycles m ≡ one.cycle
  unfolding cycles
  cycles_next m e = rw (eq-eqb m n e)

  cycles_before : (m : ℕ) → m < n → cycles m ≡ all.best m
  unfolding cycles
  cycles_before m l = rw (ne_eqb m n (λ e. omega arith))

  -- what holds of the next table and of those before holds of all
  every : (P : ℕ → List ℕ → Type 0) → P n one.cycle → ((m : ℕ) → m < n → P m (all.best m)) → (m : ℕ) → m < n + 1 → P m (cycles m)
  every P next old m l = go (eq-or-lt_of_le {n = m} {m = n} (omega arith))
    where
      go : (m ≡ n) ⊎ (m < n) → P m (cycles m)
      go (inl e) = subst (λ k. P m k) (sym (cycles_next m e)) (subst (λ k. P k one.cycle) (sym e) next)
      go (inr h) = subst (λ k. P m k) (sym (cycles_before m h)) (old m h)

  counted : t.reaching + a.reaching ≡ count_below (n + 1) (λ m. at_bound (nth_table L m) (cycles m))
  counted =
      let old = count_same n (λ m. at_bound (nth_table L m) (cycles m)) (λ m. at_bound (nth_table L m) (all.best m)) (λ m l. ap (at_bound (nth_table L m)) (cycles_before m l)) in
      let new : cond (at_bound (nth_table L n) (cycles n)) 1 0 ≡ a.reaching = ap (λ k. cond (at_bound (nth_table L n) k) 1 0) (cycles_next n refl) ∙ sym one.reaching in
      omega (arith, count_more n (λ m. at_bound (nth_table L m) (cycles m)), all.by.reaching)

  tally_larger : t.sum * a.count < a.sum * t.count
      → TalliedBy L (n + 1) cycles (record { reaching = t.reaching + a.reaching; sum = a.sum; count = a.count; first = n })
  tally_larger l = record {
    bests = every (λ m k. Best 1 (nth_table L m) 1 k) one.best all.by.bests;
    reaching = counted;
    inside = omega arith;
    sum = one.sum ∙ ap total (sym (cycles_next n refl));
    count = one.count ∙ ap length (sym (cycles_next n refl));
    fitting = one.fitting;
    largest = every (λ m k. total k * a.count ≤ a.sum * length k) (rw (one.sum, one.count) (le_refl _)) (λ m h. (less m h).0);
    earlier = λ m h. subst (λ k. total k * a.count < a.sum * length k) (sym (cycles_before m h)) (less m h).1;
  }
    where
      less : (m : ℕ) → m < n → (total (all.best m) * a.count ≤ a.sum * length (all.best m)) × (total (all.best m) * a.count < a.sum * length (all.best m))
      less m h =
          let x = below (total (all.best m)) (length (all.best m)) t.sum t.count a.sum a.count (all.by.bests m h).latencies.nonempty (all.by.largest m h) l in
          (omega arith, x)

  tally_other : a.sum * t.count ≤ t.sum * a.count
      → TalliedBy L (n + 1) cycles (record { reaching = t.reaching + a.reaching; sum = t.sum; count = t.count; first = t.first })
  tally_other l = record {
    bests = every (λ m k. Best 1 (nth_table L m) 1 k) one.best all.by.bests;
    reaching = counted;
    inside = omega (arith, all.by.inside);
    sum = all.by.sum ∙ ap total (sym (cycles_before t.first all.by.inside));
    count = all.by.count ∙ ap length (sym (cycles_before t.first all.by.inside));
    fitting = all.by.fitting;
    largest = every (λ m k. total k * t.count ≤ t.sum * length k) (rw (one.sum, one.count) at l) all.by.largest;
    earlier = λ m h. let i : m < n = omega (arith, all.by.inside) in
        subst (λ k. total k * t.count < t.sum * length k) (sym (cycles_before m i)) (all.by.earlier m h);
  }

  pub tally_more : (r : Tally) → Added t a n r → Tallied L (n + 1) r
  tally_more r j = go (dec_lt (t.sum * a.count) (a.sum * t.count))
    where
      go : Dec (t.sum * a.count < a.sum * t.count) → Tallied L (n + 1) r
      go (yes l) = record { best = cycles; by = subst (λ (x : Tally). TalliedBy L (n + 1) cycles x) (sym (j.larger l)) (tally_larger l) }
      go (no k) =
          let l : a.sum * t.count ≤ t.sum * a.count = omega arith in
          record { best = cycles; by = subst (λ (x : Tally). TalliedBy L (n + 1) cycles x) (sym (j.other l)) (tally_other l) }

-- the largest average in lowest terms
pub tally_end : {L : List Table} (n : ℕ) (t : Tally) (p q : ℕ) → n ≡ length L → Tallied L n t → Reduced t.sum t.count p q
    → TotalsOver L (record { tables = n; reaching = t.reaching; numerator = p; denominator = q; first = t.first })
tally_end {L} n t p q e x r = record {
  best = x.best;
  bests = λ m l. y.bests m (omega arith);
  by = record {
    tables = e;
    reaching = y.reaching ∙ ap (λ k. count_below k (λ m. at_bound (nth_table L m) (x.best m))) e;
    largest = λ m l. at_most (total (x.best m)) (length (x.best m)) t.sum t.count p q y.fitting.some (y.largest m (omega arith)) (le_of_eq r.same);
    lowest = r.lowest;
    first = omega (arith, y.inside);
    reached = ap (λ k. k * q) (sym y.sum) ∙ r.same ∙ ap (λ k. p * k) y.count;
    earlier = λ m l. below_most (total (x.best m)) (length (x.best m)) t.sum t.count p q r.lowest.positive (y.earlier m l) (le_of_eq r.same);
  };
}
  where
    y : TalliedBy L n x.best t
    y = x.by

-- What the loop asks and keeps

pub used_then : {a b d : List ℕ} → Used a b → Used b d → Used a d
used_then f g = record { size = g.size ∙ f.size; beyond = λ i h. g.beyond i h ∙ f.beyond i h }

-- two tables or more, and at most 4,096
pub some_tables : {s c tables room : ℕ} → Prepared s c tables room → (2 ≤ tables) × (tables ≤ 4096)
some_tables {s} {c} r =
    let m = sized s c r.size in
    let one : 1 * 1 ≤ s * c = mul-le-mul m.segments1 m.columns1 in
    let p : 2 ^ (s * c) ≤ 2 ^ 12 = pow_mono (few_places m) in
    let places : 1 ≤ s * c = omega arith in
    let q : 2 ^ 1 ≤ 2 ^ (s * c) = pow_mono places in
    (omega (arith, r.count), omega (arith, r.count))

pub few_reach : {L : List Table} {n : ℕ} {t : Tally} → Tallied L n t → t.reaching ≤ n
few_reach {L} {n} x = omega (arith, x.by.reaching, count_most n (λ m. at_bound (nth_table L m) (x.best m)))

pub one_reaches : {L : List Table} {n : ℕ} {before words : List ℕ} {a : Average} → Measured L n before words a → a.reaching < 2
one_reaches {L} {n} m = go (at_bound (nth_table L n) m.cycle) m.reaching
  where
    go : {x : ℕ} (b : Bool) → x ≡ cond b 1 0 → x < 2
    go true e = omega arith
    go false e = omega arith
