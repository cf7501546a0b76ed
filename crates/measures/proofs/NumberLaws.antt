-- How the loops find Marks and Constant, and that they are the numbers of the unit's table. Assumes nothing.
use Prim.Native.Nat.{ℕ, ◌+◌, ◌-◌, ◌%◌, ◌<◌, ◌≤◌, max}
use mathlib.Core.Path.{◌≡◌, ap, ◌∙◌, sym}
use mathlib.Core.Bool.{Bool, true, false, cond, not, ◌&&◌}
use mathlib.Core.List.{List}
use native.Mathlib.Nat.{mod-eq_of_lt, add-mod_right, mod-add-mod, zero-add}
use native.Mathlib.Decide.{dec_lt}
use native.Mathlib.Omega.{arith}
use lib.Dec.{eqb}
use lib.ListN.{get_or}
use borrow.Author.Tests.{eqb-true, eq-eqb}
use Rattle.words.specs.Bits.{is_set}
use Rattle.words.specs.Below.{some_below, count_below, max_below, least_from}
use Rattle.words.proofs.Tests.{nowhere, and_left, and_right, and_true, not_passed}
use Rattle.words.proofs.BelowLaws.{some_intro, some_elim, some_same, count_same, count_none, count_more, count_start, max_same, max_more, max_start, least_is, word_set}
use Rattle.unit.specs.declared.FunctionUnit.{FunctionUnit}
use Rattle.unit.specs.Table.{Table}
use Rattle.unit.specs.Unit.{marked, columns_of}
use Rattle.unit.proofs.SoundLaws.{marked_place}
use Rattle.collision.specs.Vector.{collides, row_word, vector_word, marks_of, suits, constant_of}
use Rattle.collision.proofs.RowLaws.{column_mark_lem}
use Rattle.measures.specs.Inner.{marks_at, most_marks, free_of, least_free}

-- Marks in a segment

-- the marks at a bit of the first c columns
abbrev pub marks_before : List ℕ → ℕ → ℕ → ℕ
marks_before columns bit c = count_below c (λ k. is_set (get_or columns k 0) bit)

module _ (columns : List ℕ) (bit c : ℕ) where
  one_more : (b : Bool) → is_set (get_or columns c 0) bit ≡ b → marks_before columns bit (c + 1) ≡ cond b 1 0 + marks_before columns bit c
  one_more b e = count_more c (λ k. is_set (get_or columns k 0) bit) ∙ ap (λ (t : Bool). cond t 1 0 + marks_before columns bit c) e

  pub marks_one : is_set (get_or columns c 0) bit ≡ true → marks_before columns bit c + 1 ≡ marks_before columns bit (c + 1)
  marks_one e = omega (arith, one_more true e)

  pub marks_zero : is_set (get_or columns c 0) bit ≡ false → marks_before columns bit c ≡ marks_before columns bit (c + 1)
  marks_zero e = omega (arith, one_more false e)

-- Marks: the most of the first b bits is kept, or the next is more

pub most_kept : (columns : List ℕ) (b : ℕ) → marks_at columns b ≤ max_below b (marks_at columns) → max_below b (marks_at columns) ≡ max_below (b + 1) (marks_at columns)
most_kept columns b h = omega (arith, max_more b (marks_at columns))

pub most_new : (columns : List ℕ) (b : ℕ) → max_below b (marks_at columns) < marks_at columns b → marks_at columns b ≡ max_below (b + 1) (marks_at columns)
most_new columns b h = omega (arith, max_more b (marks_at columns))

-- segment s + 1 of the table is bit s of the columns
marks_segment : (u : FunctionUnit) (q s : ℕ) → s < 16 → marks_at (columns_of u q) s ≡ count_below 33 (λ c. marked u q (s + 1) c)
unfolding marks_at
marks_segment u q s h =
    let first : marked u q (s + 1) 0 ≡ false = not_passed (marked u q (s + 1) 0) (λ e. omega (arith, (marked_place u q (s + 1) 0 e).column1)) in
    count_same 32 (λ c. is_set (get_or (columns_of u q) c 0) s) (λ c. marked u q (s + 1) (c + 1)) (λ c l. column_mark_lem u q s c h l)
    ∙ sym (count_start 32 (λ c. marked u q (s + 1) c) ∙ ap (λ b. cond b 1 0 + count_below 32 (λ c. marked u q (s + 1) (c + 1))) first ∙ zero-add _)

pub most_marks_of : (u : FunctionUnit) (q : ℕ) → most_marks (columns_of u q) ≡ marks_of (marked u) q
unfolding most_marks marks_of
most_marks_of u q =
    let none : count_below 33 (λ c. marked u q 0 c) ≡ 0 =
    count_none 33 (λ c. marked u q 0 c) (λ c h. not_passed (marked u q 0 c) (λ e. omega (arith, (marked_place u q 0 c e).segment1))) in
    max_same 16 (marks_at (columns_of u q)) (λ s. count_below 33 (λ c. marked u q (s + 1) c)) (λ s h. marks_segment u q s h)
    ∙ sym (max_start 16 (λ s. count_below 33 (λ c. marked u q s c))
    ∙ ap (λ n. max n (max_below 16 (λ s. count_below 33 (λ c. marked u q (s + 1) c)))) none ∙ omega arith)

-- Constant: the multiples of m

-- t is a multiple of m, and no multiple below it is 1 in the vector
pub record FreeBefore (vector m t : ℕ) : Type 0 where
  pub least : 1 ≤ t
  pub multiple : t % m ≡ 0
  pub free : (k : ℕ) → k + 1 < t → (k + 1) % m ≡ 0 → is_set vector k ≡ false

pub free_more : (vector m t : ℕ) → 1 ≤ m → FreeBefore vector m t → is_set vector (t - 1) ≡ false → FreeBefore vector m (t + m)
free_more vector m t h f e = record {
  least = omega (arith, f.least);
  multiple = add-mod_right t m ∙ f.multiple;
  free = λ k l d. go k l d (dec_lt (k + 1) t) (dec_lt t (k + 1));
}
  where
    -- no multiple stands between two neighbours
    between : (k : ℕ) → k + 1 < t + m → t < k + 1 → (k + 1) % m ≡ 0 → ⊥
    between k l o d =
        let s : k + 1 ≡ t + (k + 1 - t) = omega arith in
        let small : (k + 1 - t) % m ≡ k + 1 - t = mod-eq_of_lt (omega arith) in
        let z : (k + 1) % m ≡ (k + 1 - t) % m =
        ap (λ n. n % m) s ∙ sym (mod-add-mod t m (k + 1 - t)) ∙ ap (λ n. (n + (k + 1 - t)) % m) f.multiple ∙ ap (λ n. n % m) (zero-add (k + 1 - t)) in
        omega arith

    go : (k : ℕ) → k + 1 < t + m → (k + 1) % m ≡ 0 → Dec (k + 1 < t) → Dec (t < k + 1) → is_set vector k ≡ false
    go k l d (yes o) p = f.free k o d
    go k l d (no o) (yes p) = absurd (between k l p d)
    go k l d (no o) (no p) = let s : t - 1 ≡ k = omega arith in rw s at e

pub free_found : (vector m t : ℕ) → FreeBefore vector m t → t < 33 → is_set vector (t - 1) ≡ true → free_of vector m ≡ false
unfolding free_of
free_found vector m t f l e =
    let s : t - 1 + 1 ≡ t = omega (arith, f.least) in
    ap not (some_intro 32 (λ k. eqb ((k + 1) % m) 0 && is_set vector k) (t - 1) (omega (arith, f.least))
    (and_true (eq-eqb ((t - 1 + 1) % m) 0 (ap (λ n. n % m) s ∙ f.multiple)) e))

pub free_end : (vector m t : ℕ) → FreeBefore vector m t → 33 ≤ t → free_of vector m ≡ true
unfolding free_of
free_end vector m t f l =
    ap not (not_passed (some_below 32 (λ k. eqb ((k + 1) % m) 0 && is_set vector k))
    (λ e.
    let p = some_elim 32 (λ k. eqb ((k + 1) % m) 0 && is_set vector k) e in
    let k = p.at in
    nowhere (sym (f.free k (omega (arith, p.inside)) (eqb-true ((k + 1) % m) 0 (and_left (eqb ((k + 1) % m) 0) _ p.passed))) ∙ and_right (eqb ((k + 1) % m) 0) _ p.passed)))

-- Constant: the least m

-- the latencies before m were tried in vain
abbrev pub Tried : ℕ → ℕ → Type 0
Tried vector m = (j : ℕ) → j < m → 1 ≤ j → free_of vector j ≡ false

pub least_found : (vector m : ℕ) → 1 ≤ m → m < 33 → Tried vector m → free_of vector m ≡ true → m ≡ least_free vector
unfolding least_free
least_found vector m h l s e = sym (least_is 32 1 (free_of vector) m h (omega arith) (λ j a b. s j b a) (λ a. e))

pub least_end : (vector : ℕ) → Tried vector 33 → 33 ≡ least_free vector
unfolding least_free
least_end vector s = sym (least_is 32 1 (free_of vector) 33 (omega arith) (omega arith) (λ j a b. s j b a) (λ a. absurd (omega arith)))

free_suits : (T : Table) (q m : ℕ) → free_of (vector_word T q) m ≡ suits T q m
unfolding free_of suits row_word
free_suits T q m =
    ap not (some_same 32 (λ k. eqb ((k + 1) % m) 0 && is_set (vector_word T q) k) (λ k. eqb ((k + 1) % m) 0 && collides T q q (k + 1))
    (λ k h. ap (λ b. eqb ((k + 1) % m) 0 && b) (word_set 32 (λ k. collides T q q (k + 1)) k h)))

pub least_constant : (T : Table) (q : ℕ) → least_free (vector_word T q) ≡ constant_of T q
unfolding least_free constant_of
least_constant T q = ap (least_from 32 1) (λ i m. free_suits T q m i)
