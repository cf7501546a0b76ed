-- The cycles that a record holds: the test as facts, and the sums of their first latencies. Assumes nothing.
use Prim.Native.Nat.{ℕ, zero, suc, ◌+◌, ◌*◌, ◌≤◌, ◌<◌}
use mathlib.Core.Path.{◌≡◌, refl, sym, ap, ◌∙◌}
use mathlib.Core.Bool.{Bool, true, false, cond, not}
use mathlib.Core.List.{List}
use native.Mathlib.Nat.{le_of_lt, not-suc-le-zero, le_of_suc-le-suc, eq-or-lt_of_le}
use mathlib.Core.Logic.{◌⊎◌, inl, inr}
use native.Mathlib.Decide.{dec_lt}
use native.Mathlib.Omega.{arith}
use borrow.Author.Tests.{not-true, not-false}
use lib.ListN.{length, get_or, take}
use lib.Seq.{take-length}
use Rattle.words.specs.Below.{some_below}
use Rattle.words.proofs.Tests.{nowhere, and_left, and_right, and_true, not_passed}
use Rattle.words.proofs.BelowLaws.{some_intro, some_none}
use Rattle.unit.specs.Unit.{inside}
use Rattle.unit.proofs.Laws.{within, inside_of}
use Rattle.collision.specs.Pipeline.{total}
use Rattle.collision.proofs.StartLaws.{total_suc}
use Rattle.plan_record.specs.Record.{Recordable, recordable}

-- The test

pub recordable_facts : (l : List ℕ) → recordable l ≡ true → Recordable l
unfolding recordable
recordable_facts l e =
    let w = within (length l) 256 (and_left (inside (length l) 256) _ e) in
    record { some = w.least; few = w.most; least = λ i h. (each i h).0; most = λ i h. (each i h).1 }
  where
    none : some_below (length l) (λ i. not (inside (get_or l i 0) 32)) ≡ false
    none = not-true _ (and_right (inside (length l) 256) _ e)

    good : (i : ℕ) → i < length l → inside (get_or l i 0) 32 ≡ true
    good i h = not-false _ (not_passed (not (inside (get_or l i 0) 32)) (λ p. nowhere (sym none ∙ some_intro (length l) (λ i. not (inside (get_or l i 0) 32)) i h p)))

    each : (i : ℕ) → i < length l → (1 ≤ get_or l i 0) × (get_or l i 0 ≤ 32)
    each i h = let w = within (get_or l i 0) 32 (good i h) in (w.least, w.most)

pub recordable_of : (l : List ℕ) → Recordable l → recordable l ≡ true
unfolding recordable
recordable_of l r =
    and_true (inside_of (length l) 256 r.some r.few)
    (ap not (some_none (length l) (λ i. not (inside (get_or l i 0) 32)) (λ i h. ap not (inside_of (get_or l i 0) 32 (r.least i h) (r.most i h)))))

-- one of its facts fails
pub unrecordable : (l : List ℕ) → (Recordable l → ⊥) → recordable l ≡ false
unrecordable l f = not_passed (recordable l) (λ e. f (recordable_facts l e))

-- Sums of the first latencies

pub sum_all : (l : List ℕ) → total (take (length l) l) ≡ total l
sum_all l = ap total (take-length l)

-- each is larger than those before
pub sum_rises : (l : List ℕ) → Recordable l → (j k : ℕ) → j < k → k ≤ length l → total (take j l) < total (take k l)
sum_rises l r j zero h m = absurd (not-suc-le-zero h)
sum_rises l r j (suc k) h m = pick (eq-or-lt_of_le (le_of_suc-le-suc h)) (λ o. sum_rises l r j k o (le_of_lt m))
  where
    more : total (take (suc k) l) ≡ total (take k l) + get_or l k 0
    more = total_suc l k m

    pick : (j ≡ k) ⊎ (j < k) → (j < k → total (take j l) < total (take k l)) → total (take j l) < total (take (suc k) l)
    pick (inl e) f = let s : total (take j l) ≡ total (take k l) = ap (λ n. total (take n l)) e in omega (arith, more, r.least k m)
    pick (inr o) f = omega (arith, more, f o)

pub sum_most : (l : List ℕ) → Recordable l → (k : ℕ) → k ≤ length l → total (take k l) ≤ 32 * k
sum_most l r zero h = omega arith
sum_most l r (suc k) h = omega (arith, total_suc l k h, sum_most l r k (le_of_lt h), r.most k h)

pub total_most : (l : List ℕ) → Recordable l → total l ≤ 8192
total_most l r = omega (arith, sum_all l, sum_most l r (length l) (omega arith), r.few)

pub total_least : (l : List ℕ) → Recordable l → 1 ≤ total l
total_least l r = omega (arith, sum_all l, sum_rises l r 0 (length l) r.some (omega arith))

-- The sum that is found: 0 where the list is no such cycle

pub no_sum : (l : List ℕ) → (Recordable l → ⊥) → 0 ≡ cond (recordable l) (total l) 0
no_sum l f = rw (unrecordable l f)

-- the first i latencies are in order, and this is their sum
pub record Summed (l : List ℕ) (i sum : ℕ) : Type 0 where
  pub least : (k : ℕ) → k < i → 1 ≤ get_or l k 0
  pub most : (k : ℕ) → k < i → get_or l k 0 ≤ 32
  pub adds : sum ≡ total (take i l)
  pub low : sum ≤ 32 * i

pub summed_end : (l : List ℕ) (i sum : ℕ) → length l ≤ 256 → i ≡ length l → Summed l i sum → sum ≡ cond (recordable l) (total l) 0
summed_end l i sum few e s = go (dec_lt 0 (length l))
  where
    all : sum ≡ total l
    all = s.adds ∙ ap (λ k. total (take k l)) e ∙ sum_all l

    go : Dec (0 < length l) → sum ≡ cond (recordable l) (total l) 0
    go (yes some) = rw (recordable_of l (record { some = some; few = few; least = λ k m. s.least k (omega arith); most = λ k m. s.most k (omega arith) })) all
    go (no none) = let z : sum ≡ 0 = omega (arith, s.low) in z ∙ no_sum l (λ r. none r.some)

-- a sum other than 0 is that of a cycle
pub summed_cycle : (l : List ℕ) (sum : ℕ) → sum ≡ cond (recordable l) (total l) 0 → (sum ≡ 0 → ⊥) → (recordable l ≡ true) × (sum ≡ total l)
summed_cycle l sum e n = go (recordable l) e
  where
    go : (b : Bool) → sum ≡ cond b (total l) 0 → (b ≡ true) × (sum ≡ total l)
    go true e = (refl, e)
    go false e = absurd (n e)

pub summed_none : (l : List ℕ) (sum : ℕ) → sum ≡ cond (recordable l) (total l) 0 → sum ≡ 0 → recordable l ≡ false
summed_none l sum e z =
    unrecordable l (λ r.
    let same : cond (recordable l) (total l) 0 ≡ total l = rw (recordable_of l r) in
    omega (arith, total_least l r))
