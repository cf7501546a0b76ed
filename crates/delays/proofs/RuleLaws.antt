-- The rule that places the columns: the places that are found are by it, and no others are. Assumes nothing.
use Prim.Native.Nat.{ℕ, zero, suc, ◌+◌, ◌-◌, ◌%◌, ◌≤◌, ◌<◌}
use mathlib.Core.Path.{◌≡◌, sym, ap, ◌∙◌, subst}
use mathlib.Core.Bool.{true, false, ◌&&◌}
use mathlib.Core.Logic.{◌⊎◌, inl, inr}
use mathlib.Core.List.{List}
use native.Mathlib.Nat.{eq-or-lt_of_le, le_of_suc-le-suc}
use native.Mathlib.Omega.{arith}
use borrow.Author.Tests.{eqb-true}
use lib.Dec.{eqb}
use lib.ListN.{length}
use lib.Seq.{ext_get_or}
use Rattle.words.proofs.Tests.{and_left, and_right}
use Rattle.words.proofs.BelowLaws.{some_elim}
use Rattle.unit.specs.Table.{Table}
use Rattle.collision.specs.Meaning.{Bounded}
use Rattle.collision.specs.Vector.{marks_of}
use Rattle.delays.specs.Delays.{Marks, place_of, sharing, taken, places, crowded}
use Rattle.delays.specs.Claims.{Barred, ByRule, OneWay}
use Rattle.delays.proofs.PlaceLaws.{places_length, place_at_lem, place_at, place_before, place_after_lem, place_skips, place_apart}

-- The places that are found

module _ (R : Marks) (m n : ℕ) where
  abbrev l : List ℕ
  l = places R m n

  -- column i + 1
  taken_barred : (i p : ℕ) → i < n → taken R m (places R m i) p ≡ true → Barred R m l (i + 1) p
  unfolding taken sharing
  taken_barred i p h e =
      let k = places R m i in
      let size = places_length R m i in
      let j = some_elim (length k) (λ j. sharing R (j + 1) (length k + 1) && eqb (place_of k (j + 1) % m) (p % m)) e in
      let s = some_elim 17 (λ s. R s (j.at + 1) && R s (length k + 1)) (and_left (sharing R (j.at + 1) (length k + 1)) _ j.passed) in
      let o : j.at < i = omega (arith, j.inside, size) in
      record {
        segment = s.at;
        earlier = j.at + 1;
        least = omega arith;
        order = omega arith;
        mark = subst (λ (c : ℕ). R s.at (c + 1) ≡ true) size (and_right (R s.at (j.at + 1)) _ s.passed);
        other = and_left (R s.at (j.at + 1)) _ s.passed;
        remainder =
            ap (λ c. c % m) (place_at R m n j.at (omega arith) ∙ sym (place_at R m i j.at o))
            ∙ eqb-true (place_of k (j.at + 1) % m) (p % m) (and_right (sharing R (j.at + 1) (length k + 1)) _ j.passed);
      }

  -- the places rise, and each is the first that is not barred, whatever the marks are
  module _ (c : ℕ) (h : 1 ≤ c) (k : c ≤ n) where
    next : c - 1 + 1 ≡ c
    next = omega arith

    here : place_of l c ≡ place_at_lem R m (c - 1)
    here = ap (place_of l) (sym next) ∙ place_at R m n (c - 1) (omega arith)

    pub rule_after : place_of l (c - 1) < place_of l c
    rule_after = omega (arith, here, place_before R m n (c - 1) (omega arith), place_after_lem R m (c - 1))

    pub rule_first_lem : (p : ℕ) → place_of l (c - 1) < p → p < place_of l c → Barred R m l c p
    rule_first_lem p low high =
        subst (λ (d : ℕ). Barred R m l d p) next
        (taken_barred (c - 1) p (omega arith)
        (place_skips R m (c - 1) p (omega (arith, place_before R m n (c - 1) (omega arith))) (omega (arith, here))))

-- where no column has two marks and no segment more than m, the places are by the rule
pub by_rule : (T : Table) (q m n : ℕ) → Bounded T → crowded (T q) ≡ false → marks_of T q ≤ m → ByRule (T q) m n (places (T q) m n)
by_rule T q m n b single room = record {
  count = places_length R m n;
  after = rule_after R m n;
  allowed = allowed;
  first = λ c p h k. rule_first_lem R m n c h k p;
}
  where
    R : Marks
    R = T q

    at : (c : ℕ) → 1 ≤ c → c ≤ n → place_of (places R m n) c ≡ place_at_lem R m (c - 1)
    at c h k = here R m n c h k

    allowed : (c : ℕ) → 1 ≤ c → c ≤ n → Barred R m (places R m n) c (place_of (places R m n) c) → ⊥
    allowed c h k x =
        let e : c - 1 + 1 ≡ c = omega arith in
        let d : x.earlier - 1 + 1 ≡ x.earlier = omega (arith, x.least) in
        place_apart T q m b single room x.segment (x.earlier - 1) (c - 1) (omega (arith, x.order, x.least))
        (ap (R x.segment) d ∙ x.other) (ap (R x.segment) e ∙ x.mark)
        (ap (λ z. z % m) (sym (at x.earlier x.least (omega (arith, x.order)))) ∙ x.remainder ∙ ap (λ z. z % m) (at c h k))

-- No others

-- earlier columns at the same places bar the same places
barred_same : (R : Marks) (m : ℕ) (l k : List ℕ) (c p : ℕ) → ((d : ℕ) → d < c → place_of l d ≡ place_of k d) → Barred R m k c p → Barred R m l c p
barred_same R m l k c p same b = record {
  segment = b.segment;
  earlier = b.earlier;
  least = b.least;
  order = b.order;
  mark = b.mark;
  other = b.other;
  remainder = ap (λ x. x % m) (same b.earlier b.order) ∙ b.remainder;
}

module _ (R : Marks) (m n : ℕ) (l k : List ℕ) (a : ByRule R m n l) (b : ByRule R m n k) where
  -- a column whose predecessors have the same places is not placed earlier
  not_earlier : (l k : List ℕ) → ByRule R m n l → ByRule R m n k → (c : ℕ) → 1 ≤ c → c ≤ n → ((d : ℕ) → d < c → place_of l d ≡ place_of k d)
      → place_of l c < place_of k c → ⊥
  not_earlier l k a b c h most same less =
      a.allowed c h most
      (barred_same R m l k c (place_of l c) same
      (b.first c (place_of l c) h most (omega (arith, same (c - 1) (omega arith), a.after c h most)) less))

  same_place : (c : ℕ) → c ≤ n → (d : ℕ) → d ≤ c → place_of l d ≡ place_of k d
  same_place zero most d h = let e : d ≡ 0 = omega arith in ap (place_of l) e ∙ ap (place_of k) (sym e)
  same_place (suc c) most d h = pick (eq-or-lt_of_le h) (same_place c (omega arith))
    where
      pick : (d ≡ suc c) ⊎ (d < suc c) → ((e : ℕ) → e ≤ c → place_of l e ≡ place_of k e) → place_of l d ≡ place_of k d
      pick (inr o) r = r d (le_of_suc-le-suc o)
      pick (inl e) r = ap (place_of l) e ∙ equal one other ∙ ap (place_of k) (sym e)
        where
          one : place_of l (suc c) < place_of k (suc c) → ⊥
          one = not_earlier l k a b (suc c) (omega arith) most (λ d o. r d (le_of_suc-le-suc o))

          other : place_of k (suc c) < place_of l (suc c) → ⊥
          other = not_earlier k l b a (suc c) (omega arith) most (λ d o. sym (r d (le_of_suc-le-suc o)))

          equal : (place_of l (suc c) < place_of k (suc c) → ⊥) → (place_of k (suc c) < place_of l (suc c) → ⊥) → place_of l (suc c) ≡ place_of k (suc c)
          equal f g = omega arith

  pub same_places : l ≡ k
  same_places =
      ext_get_or 0 l k (a.count ∙ sym b.count) (λ i h. same_place n (omega arith) (suc i) (omega (arith, a.count)))

pub one_way : OneWay
one_way R m n l k a b = same_places R m n l k a b
