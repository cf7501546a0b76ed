-- The search of a small table is never refused, and finds its best cycle. Assumes nothing.
use Rattle.std.proofs.Common.{Ok, Err}
use Prim.Native.Nat.{ℕ, ◌+◌, ◌-◌, ◌*◌, ◌^◌, ◌≤◌, ◌<◌}
use mathlib.Core.Path.{◌≡◌, sym, ap, ◌∙◌, subst}
use mathlib.Core.Bool.{true, cond}
use mathlib.Core.List.{List}
use native.Mathlib.Decide.{dec_lt}
use native.Mathlib.Omega.{arith}
use lib.Dec.{leb, eqb}
use lib.ListN.{length, get_or}
use lib.Pow.{pow_mono}
use borrow.Author.Tests.{le-leb}
use Rattle.unit.specs.declared.FunctionUnit.{FunctionUnit}
use Rattle.unit.specs.declared.Outcome.{Outcome}
use Rattle.unit.specs.declared.Refusal.{Refusal}
use Rattle.unit.specs.Table.{Table}
use Rattle.unit.specs.Unit.{marked}
use Rattle.unit.specs.Calls.{tag_answer, unit_of}
use Rattle.unit.proofs.Laws.{within}
use Rattle.collision.specs.Answers.{answering, bound_answer}
use Rattle.collision.specs.Pipeline.{total, Forbidden}
use Rattle.collision.specs.Meaning.{Bounded}
use Rattle.collision.specs.Vector.{vector_word, bound_of}
use Rattle.collision.proofs.VectorLaws.{marked_bounded, row_lt}
use Rattle.diagram.specs.Diagram.{width}
use Rattle.diagram.specs.Answers.{states_of}
use Rattle.diagram.proofs.Vectors.{vector_is}
use Rattle.diagram.proofs.WidthLaws.{width_top}
use Rattle.diagram.proofs.Listing.{states_distinct}
use Rattle.diagram.proofs.StateLaws.{states_width}
use Rattle.diagram.proofs.Pigeon.{pigeon}
use Rattle.planner.specs.Plans.{Best, search_answer, SearchPromise}
use Rattle.table_numbers.specs.Tables.{small_size, table_count, small_table, all_tables, nth_table, small_table_of}
use Rattle.table_numbers.specs.Inner.{Sized}
use Rattle.table_numbers.proofs.NumberLaws.{small_mark}
use Rattle.table_numbers.proofs.ListLaws.{tables_at}
use Rattle.table_numbers.proofs.TableLaws.{table_made, table_marked, table_tag}
use Rattle.table_totals.specs.Totals.{totals_answer}
use Rattle.table_totals.specs.Inner.{Measured}

-- The bound of a unit with function 1

asked : (u : FunctionUnit) → tag_answer u 1 ≡ Ok tt → bound_answer u 1 ≡ Ok (bound_of (marked u) 1)
unfolding bound_answer
asked u e = ap (λ a. answering a (bound_of (marked u) 1)) e

pub bound_given : (u : FunctionUnit) {w : ℕ} → tag_answer u 1 ≡ Ok tt → bound_answer u 1 ≡ Ok w → w ≡ bound_of (marked u) 1
bound_given u {w} e g = let same : Ok w ≡ Ok (bound_of (marked u) 1) = sym g ∙ asked u e in cc

pub bound_never : (u : FunctionUnit) {why : Refusal} → tag_answer u 1 ≡ Ok tt → bound_answer u 1 ≡ Err why → ⊥
bound_never u {why} e g =
    let never : Err why ≡ Ok (bound_of (marked u) 1) = sym g ∙ asked u e in
    let z : ◌≡◌ {A = ℕ} 0 1 = cc in
    omega arith

-- Few states

-- two marks of a small table are at most 5 columns apart
near : {s c : ℕ} → Sized s c → (n t : ℕ) → Forbidden (small_table s c n) 1 t → t ≤ 5
near {s} {c} m n t f =
    let a = within f.column c (small_mark s c n 1 f.segment f.column f.later).0.column in
    let b = within (f.column + t) c (small_mark s c n 1 f.segment (f.column + t) f.earlier).0.column in
    omega (arith, m.columns6)

-- different words of n bits are at most 2 to the power n
bits_few : (n : ℕ) (l : List ℕ) → ((i j : ℕ) → i < j → j < length l → get_or l i 0 ≡ get_or l j 0 → ⊥) → ((i : ℕ) → i < length l → get_or l i 0 < 2 ^ n) → length l ≤ 2 ^ n
bits_few n l d b = pigeon (2 ^ n) (length l) (λ i. get_or l i 0) b (λ i j h k e. go i j h k e (dec_lt i j) (dec_lt j i))
  where
    go : (i j : ℕ) → i < length l → j < length l → get_or l i 0 ≡ get_or l j 0 → Dec (i < j) → Dec (j < i) → i ≡ j
    go i j h k e (yes x) y = absurd (d i j x k e)
    go i j h k e (no x) (yes y) = absurd (d j i y h (sym e))
    go i j h k e (no x) (no y) = omega arith

module _ {s c : ℕ} (m : Sized s c) (n : ℕ) where
  pub bounded : Bounded (small_table s c n)
  bounded = subst Bounded (table_marked m n) (marked_bounded (unit_of 1 s c (small_table s c n)))

  narrow : width (vector_word (small_table s c n) 1) ≤ 5
  narrow = go (dec_lt 0 (width (vector_word (small_table s c n) 1)))
    where
      go : Dec (0 < width (vector_word (small_table s c n) 1)) → width (vector_word (small_table s c n) 1) ≤ 5
      go (yes l) = near m n (width (vector_word (small_table s c n) 1)) (((vector_is (small_table s c n) bounded 1).bits (width (vector_word (small_table s c n) 1)) l).0 (width_top (vector_word (small_table s c n) 1) l))
      go (no l) = omega arith

  few_states_lem : length (states_of 1 (small_table s c n) 1) ≤ 256
  few_states_lem =
      let v : ℕ = vector_word (small_table s c n) 1 in
      let f = bits_few (width v) (states_of 1 (small_table s c n) 1) (states_distinct 1 (width v) v 256) (states_width 256 1 v (row_lt (small_table s c n) 1 1)) in
      let k : 2 ^ width v ≤ 2 ^ 8 = let w : width v ≤ 8 = omega (arith, narrow) in pow_mono w in
      omega arith

  -- the search of its unit is refused by 5 alone
  pub search_answer_lem : small_size s c ≡ true → (room : ℕ) → search_answer (unit_of 1 s c (small_table s c n)) 1 room ≡ totals_answer s c room
  unfolding search_answer totals_answer
  search_answer_lem small room =
      let f : leb (length (states_of 1 (small_table s c n) 1)) 256 ≡ true = le-leb (length (states_of 1 (small_table s c n) 1)) 256 few_states_lem in
      simp (small, table_tag m n, table_marked m n, f)

  search_done : small_size s c ≡ true → (room : ℕ) → 16000 ≤ room → search_answer (unit_of 1 s c (small_table s c n)) 1 room ≡ Ok tt
  unfolding totals_answer
  search_done small room l = search_answer_lem small room ∙ simp (small, le-leb 16000 room l)

  -- the unit has function 1
  pub function_one : {made : Outcome} → small_size s c ≡ true → n < table_count s c → made ≡ small_table_of s c n → tag_answer made.unit 1 ≡ Ok tt
  function_one small below e = ap (λ (o : Outcome). tag_answer o.unit 1) (e ∙ table_made s c n small below) ∙ table_tag m n

  -- what it finds
  pub measured : {before words : List ℕ} {made searched : Outcome} {bound r : ℕ} → small_size s c ≡ true → n < table_count s c → 16000 ≤ length before
      → made ≡ small_table_of s c n → SearchPromise made.unit 1 before words searched.answer searched.unit
      → bound ≡ bound_of (marked made.unit) 1
      → r ≡ cond (eqb searched.unit.plan.sum (bound * searched.unit.plan.count)) 1 0
      → searched.unit.plan.sum < 2 ^ 16
      → Measured (all_tables s c) n before words (record { sum = searched.unit.plan.sum; count = searched.unit.plan.count; reaching = r })
  measured {before} {words} {made} {searched} {bound} {r} small below room e promise b h low =
      let u : made.unit ≡ unit_of 1 s c (small_table s c n) = ap (λ (o : Outcome). o.unit) (e ∙ table_made s c n small below) in
      let T : marked made.unit ≡ nth_table (all_tables s c) n = ap marked u ∙ table_marked m n ∙ sym (tables_at s c n below) in
      let done : searched.answer ≡ Ok tt = promise.says ∙ ap (λ (v : FunctionUnit). search_answer v 1 (length before)) u ∙ search_done small (length before) room in
      let f = promise.found done in
      let sum : searched.unit.plan.sum ≡ total f.cycle = ap (λ (v : FunctionUnit). v.plan.sum) f.unit in
      let count : searched.unit.plan.count ≡ length f.cycle = ap (λ (v : FunctionUnit). v.plan.count) f.unit in
      let best : Best 1 (nth_table (all_tables s c) n) 1 f.cycle = subst (λ (U : Table). Best 1 U 1 f.cycle) T f.best in
      record {
        cycle = f.cycle;
        best = best;
        sum = sum;
        count = count;
        fitting = record { some = omega (arith, best.latencies.nonempty); few = omega (arith, f.few); low = low };
        reaching = h ∙ rw (b, T, sum, count);
        used = record { size = promise.work.size; beyond = promise.work.beyond };
      }
