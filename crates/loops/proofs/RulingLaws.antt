-- The rules of a loop are made right. Assumes nothing.
use mathlib.Core.Path.{◌≡◌, refl, sym, ap, ap₂, ◌∙◌}
use mathlib.Core.Bool.{true, ◌&&◌}
use mathlib.Core.List.{List, [], ◌∷◌}
use Prim.Native.Nat.{ℕ, zero, suc, ◌+◌, ◌*◌, ◌/◌, ◌%◌, ◌≤◌, ◌<◌, max}
use native.Mathlib.Nat.{not-suc-le-zero, le_of_suc-le-suc}
use native.Mathlib.Numerals.{add-one}
use native.Mathlib.Omega.{arith}
use lib.ListN.{length, get_or}
use Rattle.std.specs.List.{list_all}
use Rattle.words.specs.Bits.{is_set}
use Rattle.words.specs.Below.{max_below, span_below, word_below}
use Rattle.words.proofs.Tests.{and_left, and_right, and_true}
use Rattle.words.proofs.BelowLaws.{span_same, word_set}
use Rattle.unit.specs.declared.FunctionUnit.{FunctionUnit}
use Rattle.unit.specs.Table.{Table}
use Rattle.unit.specs.Unit.{marked, inside, columns_of}
use Rattle.collision.specs.Vector.{collides, row_word, row_of_columns, largest_column}
use Rattle.collision.proofs.RowLaws.{row_columns}
use Rattle.controller.specs.Bank.{row_for}
use Rattle.diagram.specs.Diagram.{width}
use Rattle.loops.specs.declared.steps.Rules.{Rules}
use Rattle.loops.specs.Answers.{all_tags}
use Rattle.loops.specs.Inner.{RowsOf, TagsOf, RulesOf}

-- n

row_span : (T : Table) (q r : ℕ) → width (row_word T q r) ≡ span_below 32 (λ k. collides T q r (k + 1))
unfolding row_word
row_span T q r = span_same 32 (is_set (word_below 32 (λ k. collides T q r (k + 1)))) (λ k. collides T q r (k + 1)) (λ k h. word_set 32 (λ k. collides T q r (k + 1)) k h)

pub span_is : (u : FunctionUnit) (q r : ℕ) (later earlier : List ℕ) (row n : ℕ) → later ≡ columns_of u q → earlier ≡ columns_of u r
    → row ≡ row_of_columns later earlier → n ≡ width row → n ≡ span_below 32 (λ k. collides (marked u) q r (k + 1))
span_is u q r later earlier row n a b e f =
    let is : row ≡ row_word (marked u) q r = e ∙ ap₂ (λ (x y : List ℕ). row_of_columns x y) a b ∙ row_columns u q r in
    f ∙ ap width is ∙ row_span (marked u) q r

-- the largest value so far
pub max_begin : (f : ℕ → ℕ) → 0 ≡ max_below 0 f
unfolding max_below
max_begin f = refl

pub max_more : (f : ℕ → ℕ) (i best one r : ℕ) → best ≡ max_below i f → one ≡ f i → r ≡ max one best → r ≡ max_below (i + 1) f
unfolding max_below
max_more f i best one r a b c = c ∙ ap₂ (λ (x y : ℕ). max x y) b a ∙ ap (λ n. max_below n f) (sym (add-one i))

pub max_all : (f : ℕ → ℕ) (i best : ℕ) → best ≡ max_below i f → i ≤ 5 → 5 ≤ i → best ≡ max_below 5 f
max_all f i best a l m = let e : i ≡ 5 = omega arith in a ∙ ap (λ n. max_below n f) e

pub largest_is : (T : Table) (n : ℕ) → n ≡ max_below 5 (λ q. max_below 5 (λ r. span_below 32 (λ k. collides T q r (k + 1)))) → n ≡ largest_column T
unfolding largest_column
largest_is T n e = e

-- Tags

pub all_known : (u : FunctionUnit) (tags : List ℕ) → all_tags u tags ≡ true → (i : ℕ) → i < length tags → inside (get_or tags i 0) u.functions ≡ true
all_known u [] e i l = absurd (not-suc-le-zero l)
all_known u (t ∷ tags) e zero l = and_left (inside t u.functions) _ e
all_known u (t ∷ tags) e (suc i) l = all_known u tags (and_right (inside t u.functions) _ e) i (le_of_suc-le-suc l)

pub all_tags_lem : (u : FunctionUnit) (tags : List ℕ) → ((i : ℕ) → i < length tags → inside (get_or tags i 0) u.functions ≡ true) → all_tags u tags ≡ true
all_tags_lem u [] h = refl
all_tags_lem u (t ∷ tags) h = and_true (h 0 (omega arith)) (all_tags_lem u tags (λ i l. h (suc i) (omega arith)))

pub all_tags_list : (u : FunctionUnit) (tags : List ℕ) → list_all (λ t. inside t u.functions) tags ≡ all_tags u tags
all_tags_list u [] = refl
all_tags_list u (t ∷ tags) = ap (λ b. inside t u.functions && b) (all_tags_list u tags)

-- The rules

pub ruled : (u : FunctionUnit) (tags : List ℕ) (R : Rules) → RowsOf u tags R.rows → TagsOf tags R.tags → R.count ≡ length tags
    → R.width ≡ largest_column (marked u) → RulesOf u tags R
ruled u tags R rows copied count wide = record {
  rows = λ p r h k.
      let d : (p * 4 + r) / 4 ≡ p = omega arith in
      let m : (p * 4 + r) % 4 + 1 ≡ r + 1 = omega arith in
      rows.each (p * 4 + r) (omega arith) ∙ ap₂ (λ (a b : ℕ). row_for u (get_or tags a 0) b) d m;
  tag = copied.each;
  count = count;
  width = wide;
}
