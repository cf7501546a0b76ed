-- What the test for a cycle says as facts, and the better of two cycles. Assumes nothing.
use mathlib.Core.Path.{◌≡◌, sym, ap, ◌∙◌}
use mathlib.Core.Bool.{Bool, true, false, not}
use mathlib.Core.List.{List, []}
use Prim.Native.Nat.{ℕ, ◌*◌, ◌^◌, ◌≤◌, ◌<◌}
use native.Mathlib.Nat.{mul-le-mul}
use native.Mathlib.Omega.{arith}
use lib.Dec.{leb, eqb}
use lib.ListN.{length, get_or, take}
use lib.Seq.{get_or-take, take-length, length-take-le}
use Rattle.std.specs.List.{IsAnyAnswer}
use borrow.Author.Tests.{leb-true, le-leb, eqb-true, eqb-false, eq-eqb, not-true, lt-ltb, le-ltb}
use Rattle.words.specs.Below.{some_below}
use Rattle.words.proofs.Tests.{nowhere, and_left, and_right, and_true, not_passed}
use Rattle.words.proofs.BelowLaws.{some_intro, some_elim}
use Rattle.unit.specs.Unit.{inside}
use Rattle.unit.proofs.Laws.{within, inside_of}
use Rattle.collision.specs.Pipeline.{Cycle, total}
use Rattle.judge.specs.Judge.{good_cycle, counted, better_of}

-- the first k of a list are a cycle of 1 to 256 latencies, none of them 0
pub record Counted (l : List ℕ) (k : ℕ) : Type 0 where
  pub inside : k ≤ length l
  pub least : 1 ≤ k
  pub most : k ≤ 256
  pub each : (i : ℕ) → i < k → 1 ≤ get_or l i 0

-- A whole list

pub good_facts : (l : List ℕ) → good_cycle l ≡ true → Counted l (length l)
unfolding good_cycle
good_facts l e =
    let w = within (length l) 256 (and_left (inside (length l) 256) _ e) in
    let none = not-true (some_below (length l) (λ i. eqb (get_or l i 0) 0)) (and_right (inside (length l) 256) _ e) in
    let never : (i : ℕ) → i < length l → get_or l i 0 ≡ 0 → ⊥ =
    λ i h z. nowhere (sym none ∙ some_intro (length l) (λ i. eqb (get_or l i 0) 0) i h (eq-eqb (get_or l i 0) 0 z)) in
    record { inside = omega arith; least = w.least; most = w.most; each = λ i h. let n = never i h in omega arith }

pub good_of : (l : List ℕ) → Counted l (length l) → good_cycle l ≡ true
unfolding good_cycle
good_of l c =
    and_true (inside_of (length l) 256 c.least c.most)
    (ap not
    (not_passed (some_below (length l) (λ i. eqb (get_or l i 0) 0))
    (λ e.
    let x = some_elim (length l) (λ i. eqb (get_or l i 0) 0) e in
    omega (arith, c.each x.at x.inside, eqb-true (get_or l x.at 0) 0 x.passed))))

pub good_cycle_lem : (l : List ℕ) → good_cycle l ≡ true → Cycle 1 l
good_cycle_lem l e = let c = good_facts l e in record { nonempty = c.least; each = c.each }

-- The first k of a list

pub counted_facts : (l : List ℕ) (k : ℕ) → counted l k ≡ true → Counted l k
unfolding counted
counted_facts l k e =
    let h = leb-true k (length l) (and_left (leb k (length l)) _ e) in
    let n = length-take-le k l h in
    let c = good_facts (take k l) (and_right (leb k (length l)) _ e) in
    record {
      inside = h;
      least = omega (arith, c.least);
      most = omega (arith, c.most);
      each = λ i b. rw (get_or-take k l i 0 b) at (c.each i (omega arith));
    }

pub counted_length : (l : List ℕ) (k : ℕ) → counted l k ≡ true → length (take k l) ≡ k
counted_length l k e = length-take-le k l (counted_facts l k e).inside

pub counted_of : (l : List ℕ) (k : ℕ) → Counted l k → counted l k ≡ true
unfolding counted
counted_of l k c =
    let n = length-take-le k l c.inside in
    and_true (le-leb k (length l) c.inside)
    (good_of (take k l) (record {
      inside = omega arith;
      least = omega (arith, c.least);
      most = omega (arith, c.most);
      each = λ i b.
          let h : i < k = omega arith in
          rw (get_or-take k l i 0 h) (c.each i h);
    }))

-- the list is no cycle where one of its facts fails
pub uncounted : (l : List ℕ) (k : ℕ) → (Counted l k → ⊥) → counted l k ≡ false
uncounted l k f = not_passed (counted l k) (λ e. f (counted_facts l k e))

-- whether a byte is 0 decides it where the length is good
pub counted_tested : (l : List ℕ) (k : ℕ) (r : Bool) → k ≤ length l → 1 ≤ k → k ≤ 256 → IsAnyAnswer (λ y b. eqb y 0 ≡ b) (take k l) r → not r ≡ counted l k
counted_tested l k true inside least most w =
    let n = length-take-le k l inside in
    let i : w.0 < k = omega (arith, w.1) in
    let z = eqb-true _ 0 (w.2 0) in
    sym (uncounted l k (λ c. let e = get_or-take k l w.0 0 i in let h = c.each w.0 i in omega arith))
counted_tested l k false inside least most none =
    let n = length-take-le k l inside in
    sym (counted_of l k (record {
      inside = inside;
      least = least;
      most = most;
      each = λ i h.
          let e = get_or-take k l i 0 h in
          let z = eqb-false _ 0 (none i 0 (omega arith) (omega arith)) in
          omega arith;
    }))

-- all of a list
pub counted_whole : (l : List ℕ) → counted l (length l) ≡ good_cycle l
unfolding counted
counted_whole l = rw (le-leb (length l) (length l) (omega arith), take-length l)

-- The better of two

-- sums of at most 256 bytes, times a count of at most 256
pub product_fits : (s k n : ℕ) → s ≤ 255 * k → k ≤ 256 → n ≤ 256 → s * n < 2 ^ 64
product_fits s k n a b d =
    let p : s * n ≤ 65280 * 256 = mul-le-mul {n₁ = s} {m₁ = n} {n₂ = 65280} {m₂ = 256} (omega arith) d in
    omega arith

pub better_no_first : (a : List ℕ) (m : ℕ) (b : List ℕ) (n : ℕ) → counted a m ≡ false → better_of a m b n ≡ []
unfolding better_of
better_no_first a m b n e = rw e

pub better_no_second : (a : List ℕ) (m : ℕ) (b : List ℕ) (n : ℕ) → counted a m ≡ true → counted b n ≡ false → better_of a m b n ≡ []
unfolding better_of
better_no_second a m b n d e = rw (d, e)

-- the sums in hand are those of the two parts, and their products with the other's count are compared
pub better_second : (a : List ℕ) (m : ℕ) (b : List ℕ) (n s t : ℕ) → counted a m ≡ true → counted b n ≡ true
    → s ≡ total (take m a) → t ≡ total (take n b) → t * m < s * n → better_of a m b n ≡ take n b
unfolding better_of
better_second a m b n s t d e p q h = rw (d, e, ← p, ← q, lt-ltb (t * m) (s * n) h)

pub better_first : (a : List ℕ) (m : ℕ) (b : List ℕ) (n s t : ℕ) → counted a m ≡ true → counted b n ≡ true
    → s ≡ total (take m a) → t ≡ total (take n b) → s * n ≤ t * m → better_of a m b n ≡ take m a
unfolding better_of
better_first a m b n s t d e p q h = rw (d, e, ← p, ← q, le-ltb (t * m) (s * n) h)
