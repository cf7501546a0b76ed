-- Marks moved into a unit column by column. Assumes nothing.
use Prim.Native.Nat.{ℕ, ◌+◌, ◌-◌, ◌≤◌, ◌<◌}
use mathlib.Core.Path.{◌≡◌, refl, sym, ap, ◌∙◌}
use mathlib.Core.Bool.{Bool, true, false, cond, ◌&&◌}
use mathlib.Core.Logic.{⊎_elim}
use mathlib.Core.List.{List}
use native.Mathlib.Nat.{eq-or-lt_of_le}
use native.Mathlib.Omega.{arith}
use borrow.Author.Tests.{eqb-true, eq-eqb}
use lib.Dec.{eqb}
use lib.ListN.{get_or}
use Rattle.words.specs.Bits.{is_set}
use Rattle.words.specs.Below.{some_below}
use Rattle.words.proofs.Tests.{nowhere, and_left, and_right, and_true, same_test}
use Rattle.words.proofs.BitLaws.{set_below}
use Rattle.unit.specs.declared.FunctionUnit.{FunctionUnit}
use Rattle.unit.specs.Table.{Table, empty}
use Rattle.unit.specs.Unit.{inside, good_counts}
use Rattle.unit.specs.Calls.{blank, unit_of, fresh_of, column_of}
use Rattle.unit.proofs.Laws.{inside_of}
use Rattle.unit.proofs.TableLaws.{column_changed, InCounts, unit_of_none, unit_of_column}
use Rattle.delays.specs.Delays.{Marks, places, moved_table}
use Rattle.delays.specs.Inner.{column_marks, Movable}
use Rattle.delays.proofs.PlaceLaws.{place_at_lem, place_at, place_first, place_one}
use Rattle.delays.proofs.MovedLaws.{Old, moved_has, moved_of, moved_inside}
use Rattle.delays.proofs.WordLaws.{mark_has}

module _ (R : Marks) (m : ℕ) where
  abbrev spot : ℕ → ℕ
  spot = place_at_lem R m

  abbrev moved_to : ℕ → Table
  moved_to n = moved_table R (places R m n)

  moved_one : (n x s z : ℕ) → x ≡ 1 → Old R m n s z → moved_to n x s z ≡ true
  moved_one n x s z e o = ap (λ k. moved_to n k s z) e ∙ moved_of R m n s z o

  -- one column more
  old_more : (n s z : ℕ) → Old R m n s z → Old R m (n + 1) s z
  old_more n s z o = record { index = o.index; inside = omega (arith, o.inside); place = o.place; mark = o.mark }

  old_less : (n s z : ℕ) → Old R m (n + 1) s z → (z ≡ spot n → ⊥) → Old R m n s z
  old_less n s z o other =
      ⊎_elim (λ e. absurd (other (sym o.place ∙ ap spot e)))
      (λ l. record { index = o.index; inside = l; place = o.place; mark = o.mark })
      (eq-or-lt_of_le (below o.inside))
    where
      below : o.index < n + 1 → o.index ≤ n
      below h = omega arith

  table_more : (n w : ℕ) → ((s : ℕ) → inside s 16 && is_set w (s - 1) ≡ R s (n + 1)) → column_changed (moved_to n) 1 (spot n) w ≡ moved_to (n + 1)
  table_more n w word = λ i x y z. at x y z i
    where
      at : (x y z : ℕ) → column_changed (moved_to n) 1 (spot n) w x y z ≡ moved_to (n + 1) x y z
      at x y z = go (eqb x 1 && eqb z (spot n)) refl
        where
          go : (b : Bool) → eqb x 1 && eqb z (spot n) ≡ b → cond b (inside y 16 && is_set w (y - 1)) (moved_to n x y z) ≡ moved_to (n + 1) x y z
          go true e =
              let p = eqb-true x 1 (and_left (eqb x 1) _ e) in
              let q = eqb-true z (spot n) (and_right (eqb x 1) _ e) in
              word y
              ∙ same_test (R y (n + 1)) (moved_to (n + 1) x y z)
              (λ h. moved_one (n + 1) x y z p (record { index = n; inside = omega arith; place = sym q; mark = h }))
              (λ h.
              let o = (moved_has R m (n + 1) x y z h).1 in
              ap (λ k. R y (k + 1)) (sym (place_one R m o.index n (o.place ∙ q))) ∙ o.mark)
          go false e =
              same_test (moved_to n x y z) (moved_to (n + 1) x y z)
              (λ h. let k = moved_has R m n x y z h in moved_one (n + 1) x y z k.0 (old_more n y z k.1))
              (λ h.
              let k = moved_has R m (n + 1) x y z h in
              moved_one n x y z k.0 (old_less n y z k.1 (λ q. nowhere (sym e ∙ and_true (eq-eqb x 1 k.0) (eq-eqb z (spot n) q)))))

  table_none : empty ≡ moved_to 0
  unfolding moved_table places some_below
  table_none = λ i x y z. at x i
    where
      at : (x : ℕ) → false ≡ eqb x 1 && false
      at x = no (eqb x 1)
        where
          no : (b : Bool) → false ≡ b && false
          no true = refl
          no false = refl

module _ (columns spots : List ℕ) (m n segments width : ℕ) (a : Movable columns spots m n segments width) where
  abbrev M : Marks
  M = column_marks columns

  abbrev unit_at : ℕ → FunctionUnit
  unit_at i = unit_of 1 segments width (moved_to M m i)

  pub unit_none : blank 1 segments width ≡ unit_at 0
  unit_none = unit_of_none 1 segments width (moved_to M m 0) (table_none M m)

  spot_is : (i : ℕ) → i < n → get_or spots i 0 ≡ spot M m i
  spot_is i h = a.placed.each i h ∙ place_at M m n i h

  counts : good_counts 1 segments width ≡ true
  counts = and_true (inside_of segments 16 a.segment1 a.segment16) (inside_of width 32 a.width1 a.width32)

  segment_most : (s i : ℕ) → M s (i + 1) ≡ true → (1 ≤ s) × (s ≤ segments)
  segment_most s i e =
      let w = mark_has columns s (i + 1) e in
      let b : i + 1 - 1 < 32 = omega (arith, w.column.most) in
      let l : s - 1 < segments = set_below (get_or columns (i + 1 - 1) 0) segments (s - 1) (a.small (i + 1 - 1) b) w.bit in
      (w.segment.least, omega (arith, w.segment.least))

  inside_counts : (i : ℕ) → i ≤ n → InCounts 1 segments width (moved_to M m i)
  inside_counts i h =
      moved_inside M m i segments width a.segment16 a.width32 (λ s k l. segment_most s k)
      (λ k l. omega (arith, spot_is k (omega arith), a.within k (omega arith)))

  word_says : (i : ℕ) → i < 32 → (s : ℕ) → inside s 16 && is_set (get_or columns i 0) (s - 1) ≡ M s (i + 1)
  unfolding column_marks
  word_says i h s =
      let b : i ≡ i + 1 - 1 = omega arith in
      ap (λ k. inside s 16 && is_set (get_or columns k 0) (s - 1)) b
      ∙ ap (λ t. inside s 16 && (t && is_set (get_or columns (i + 1 - 1) 0) (s - 1))) (sym (inside_of (i + 1) 32 (omega arith) (omega arith)))

  pub unit_more : (i : ℕ) → i < n → (column_of (unit_at i) 1 (get_or spots i 0) (get_or columns i 0)).unit ≡ unit_at (i + 1)
  unit_more i h =
      let w = get_or columns i 0 in
      let c = get_or spots i 0 in
      unit_of_column 1 segments width (moved_to M m i) (moved_to M m (i + 1)) 1 c w counts (inside_counts i (omega arith)) (inside_of 1 1 (omega arith) (omega arith))
      (inside_of c width (omega (arith, spot_is i h, place_first M m i)) (a.within i h)) (a.small i (omega (arith, a.few)))
      (ap (λ (k : ℕ). column_changed (moved_to M m i) 1 k w) (spot_is i h) ∙ table_more M m i w (word_says i (omega (arith, a.few))))

pub fresh_is : (s w : ℕ) → (fresh_of 1 s w).unit ≡ blank 1 s w
unfolding fresh_of
fresh_is s w = refl
