-- The marks of the moved table: each is that of a column, and lies within the counts. Assumes nothing.
use Prim.Native.Nat.{ℕ, ◌+◌, ◌≤◌, ◌<◌}
use mathlib.Core.Path.{◌≡◌, sym, ◌∙◌}
use mathlib.Core.Bool.{true, ◌&&◌}
use mathlib.Core.List.{List}
use native.Mathlib.Omega.{arith}
use borrow.Author.Tests.{eqb-true, eq-eqb}
use lib.Dec.{eqb}
use lib.ListN.{length}
use Rattle.words.proofs.Tests.{and_left, and_right, and_true}
use Rattle.words.proofs.BelowLaws.{some_intro, some_elim}
use Rattle.unit.specs.Unit.{somewhere}
use Rattle.unit.proofs.Laws.{somewhere_of}
use Rattle.delays.specs.Delays.{Marks, place_of, places, moved_table}
use Rattle.delays.proofs.PlaceLaws.{places_length, place_at_lem, place_at, place_first}

module _ (R : Marks) (m n : ℕ) where
  abbrev l : List ℕ
  l = places R m n

  -- the mark at place z of segment s is that of a column
  pub record Old (s z : ℕ) : Type 0 where
    pub index : ℕ
    pub inside : index < n
    pub place : place_at_lem R m index ≡ z
    pub mark : R s (index + 1) ≡ true

  pub moved_has : (x s z : ℕ) → moved_table R l x s z ≡ true → (x ≡ 1) × Old s z
  unfolding moved_table
  moved_has x s z e =
      let p = some_elim (length l) (λ i. eqb (place_of l (i + 1)) z && R s (i + 1)) (and_right (eqb x 1) _ e) in
      let h : p.at < n = omega (arith, p.inside, places_length R m n) in (
        eqb-true x 1 (and_left (eqb x 1) _ e),
        record {
          index = p.at;
          inside = h;
          place = sym (place_at R m n p.at h) ∙ eqb-true (place_of l (p.at + 1)) z (and_left (eqb (place_of l (p.at + 1)) z) _ p.passed);
          mark = and_right (eqb (place_of l (p.at + 1)) z) _ p.passed;
        },
      )

  pub moved_of : (s z : ℕ) → Old s z → moved_table R l 1 s z ≡ true
  unfolding moved_table
  moved_of s z o =
      some_intro (length l) (λ k. eqb (place_of l (k + 1)) z && R s (k + 1)) o.index (omega (arith, o.inside, places_length R m n))
      (and_true (eq-eqb (place_of l (o.index + 1)) z (place_at R m n o.index o.inside ∙ o.place)) o.mark)

  -- where the function's segments and the places lie within the counts
  pub moved_inside : (segments width : ℕ) → segments ≤ 16 → width ≤ 32 → ((s i : ℕ) → i < n → R s (i + 1) ≡ true → (1 ≤ s) × (s ≤ segments))
      → ((i : ℕ) → i < n → place_at_lem R m i ≤ width) → (x s z : ℕ) → moved_table R l x s z ≡ true
      → (somewhere x s z ≡ true) × (x ≤ 1) × (s ≤ segments) × (z ≤ width)
  moved_inside segments width few near segment within x s z e =
      let k = moved_has x s z e in
      let o = k.1 in
      let g = segment s o.index o.inside o.mark in
      let w = within o.index o.inside in
      let f = place_first R m o.index in (
        somewhere_of x s z (omega (arith, k.0)) (omega (arith, k.0)) g.0 (omega (arith, g.1)) (omega (arith, o.place)) (omega (arith, o.place)),
        omega (arith, k.0),
        g.1,
        omega (arith, o.place),
      )
