-- Units and tables: the unit of a table has that table and no other unit of its counts has; what an accepted column's word changes; a unit filled column by
-- column; mark and unmark as the giving of a column's word. Assumes nothing.
use Rattle.std.proofs.Common.{Ok, Err}
use Prim.Native.Nat.{ℕ, ◌+◌, ◌-◌, ◌/◌, ◌%◌, ◌^◌, ◌<◌, ◌≤◌}
use mathlib.Core.Path.{◌≡◌, refl, ap, ap₂, ◌∙◌, sym, subst}
use mathlib.Core.Bool.{Bool, true, false, cond, ◌&&◌}
use mathlib.Core.List.{List}
use native.Mathlib.Omega.{arith}
use native.Mathlib.Nat.{lt_of_lt_of_le}
use native.Mathlib.Decide.{dec_lt, ℕ_discrete}
use lib.Dec.{eqb}
use lib.ListN.{length, get_or, set, length-set, get_or-eq_default}
use lib.Pow.{pow_mono}
use lib.Seq.{get_or-set_same, get_or-set_other}
use borrow.Author.Tests.{eq-eqb, eqb-true, lt-ltb}
use Rattle.words.specs.Bits.{is_set, set_bit, clear_bit}
use Rattle.words.specs.Below.{word_below, list_below}
use Rattle.words.proofs.Tests.{nowhere, and_left, and_right, and_true, and_cong, not_passed, by_test}
use Rattle.words.proofs.BitLaws.{set_below, set_lt, clear_lt}
use Rattle.words.proofs.BelowLaws.{word_lt, word_set}
use Rattle.words.proofs.ListLaws.{list_length, list_at}
use Rattle.unit.specs.declared.FunctionUnit.{FunctionUnit}
use Rattle.unit.specs.declared.Plan.{Plan}
use Rattle.unit.specs.declared.Outcome.{Outcome}
use Rattle.unit.specs.Answers.{Answer}
use Rattle.unit.specs.Table.{Table, empty}
use Rattle.unit.specs.Unit.{inside, somewhere, place, word_at, marked, columns_of, good_counts, sound_of}
use Rattle.unit.specs.Inner.{Somewhere}
use Rattle.unit.specs.Calls.{tag_answer, spot_answer, column_answer, no_plan, blank, unit_of, with_word, outcome, mark_of, unmark_of, column_of}
use Rattle.unit.proofs.Laws.{within, inside_of, somewhere_of, placed, sound_has, sound_of_lem, accepted, edit_ranges, column_accepted, column_range}
use Rattle.unit.proofs.SoundLaws.{Words, Inside, inside_means, inside_test, marked_place, sound_word}
use Rattle.unit.proofs.ColumnLaws.{columns_word_lem}
use Rattle.unit.proofs.EditLaws.{same_words, blank_words, blank_table}

-- The unit of a table

-- the word at place i
abbrev table_word : Table → ℕ → ℕ
table_word T i = word_below 16 (λ r. T (i / 32 + 1) (r + 1) (i % 32 + 1))

module _ (f s c : ℕ) (T : Table) where
  pub unit_of_words : Words (unit_of f s c T)
  unfolding unit_of
  unit_of_words = record { count = list_length 128 (table_word T); small = λ k. small k (dec_lt k 128) }
    where
      small : (k : ℕ) → Dec (k < 128) → get_or (list_below 128 (table_word T)) k 0 < 2 ^ 16
      small k (yes l) = rw (list_at 128 (table_word T) k l) (word_lt 16 (λ r. T (k / 32 + 1) (r + 1) (k % 32 + 1)))
      small k (no n) =
          let l : length (list_below 128 (table_word T)) ≤ k = omega (arith, list_length 128 (table_word T)) in
          rw (get_or-eq_default (list_below 128 (table_word T)) 0 l) (omega arith)

  pub unit_of_at : (q r k : ℕ) → somewhere q r k ≡ true → marked (unit_of f s c T) q r k ≡ T q r k
  unfolding marked unit_of
  unit_of_at q r k h =
      let a = placed q r k h in
      let e1 : place q k / 32 + 1 ≡ q = omega arith in
      let e2 : r - 1 + 1 ≡ r = omega arith in
      let e3 : place q k % 32 + 1 ≡ k = omega arith in
      ap (λ b. b && is_set (get_or (list_below 128 (table_word T)) (place q k) 0) (r - 1)) h
      ∙ ap (λ w. is_set w (r - 1)) (list_at 128 (table_word T) (place q k) (omega arith))
      ∙ word_set 16 (λ j. T (place q k / 32 + 1) (j + 1) (place q k % 32 + 1)) (r - 1) (omega arith)
      ∙ ap (λ x. T x (r - 1 + 1) (place q k % 32 + 1)) e1 ∙ ap (λ y. T q y (place q k % 32 + 1)) e2 ∙ ap (T q r) e3

  -- where a table has marks only at such places, it is the unit's
  pub unit_of_table : ((q r k : ℕ) → T q r k ≡ true → somewhere q r k ≡ true) → marked (unit_of f s c T) ≡ T
  unfolding marked
  unit_of_table h = λ i q r k. at q r k i
    where
      at : (q r k : ℕ) → marked (unit_of f s c T) q r k ≡ T q r k
      at q r k =
          by_test (somewhere q r k) (unit_of_at q r k)
          (λ n. ap (λ b. b && is_set (word_at (unit_of f s c T) q k) (r - 1)) n ∙ sym (not_passed (T q r k) (λ t. nowhere (sym n ∙ h q r k t))))

  pub unit_of_sound : good_counts f s c ≡ true
      → ((q r k : ℕ) → T q r k ≡ true → (somewhere q r k ≡ true) × (q ≤ f) × (r ≤ s) × (k ≤ c)) → sound_of (unit_of f s c T) ≡ true
  unfolding no_plan unit_of marked
  unit_of_sound g h =
      let g2 = and_right (inside f 4) _ g in
      sound_of_lem (unit_of f s c T) (record {
        functions = and_left (inside f 4) _ g;
        segments = and_left (inside s 16) _ g2;
        columns = and_right (inside s 16) _ g2;
        plan = refl;
        marks = inside_test (unit_of f s c T) (λ q r k m. let d = h q r k (sym (unit_of_at q r k (and_left (somewhere q r k) _ m)) ∙ m) in (d.1, d.2, d.3));
      })

-- a unit without plan is the unit of its table
pub unit_of_same : (u : FunctionUnit) (T : Table) → Words u → u.plan ≡ no_plan → marked u ≡ T
    → u ≡ unit_of u.functions u.segments u.columns T
unfolding unit_of
unit_of_same u T w p e = ap₂ (λ (m : List ℕ) (n : Plan). with_both m n) words p
  where
    with_both : List ℕ → Plan → FunctionUnit
    with_both m n = record { functions = u.functions; segments = u.segments; columns = u.columns; marks = m; plan = n }

    inside_places : (q r k : ℕ) → T q r k ≡ true → somewhere q r k ≡ true
    inside_places q r k t =
        let a = marked_place u q r k (ap (λ g. g q r k) e ∙ t) in
        somewhere_of q r k a.tag1 a.tag4 a.segment1 a.segment16 a.column1 a.column32

    words : u.marks ≡ list_below 128 (table_word T)
    words =
        same_words u (unit_of u.functions u.segments u.columns T) w (unit_of_words u.functions u.segments u.columns T)
        (e ∙ sym (unit_of_table u.functions u.segments u.columns T inside_places))

-- A column's word

-- the call answers what its tests say
pub column_answer_lem : (u : FunctionUnit) (q c w : ℕ) → (column_of u q c w).answer ≡ column_answer u q c w
unfolding column_of
column_answer_lem u q c w = go (column_answer u q c w)
  where
    go : (a : Answer) → (outcome a u (with_word u q c w)).answer ≡ a
    go (Ok _) = refl
    go (Err why) = refl

-- a sound unit takes a word of its segments for each of its tags and columns
pub column_done : (u : FunctionUnit) (q c w : ℕ) → sound_of u ≡ true → inside q u.functions ≡ true → inside c u.columns ≡ true
    → w < 2 ^ u.segments → column_answer u q c w ≡ Ok tt
unfolding column_answer tag_answer
column_done u q c w s t k l = simp (s, t, k, lt-ltb w (2 ^ u.segments) l)

-- the table with the bits of a word as the marks of q in column c, and every other as before
abbrev pub column_changed : Table → ℕ → ℕ → ℕ → Table
column_changed T q c w x y z = cond (eqb x q && eqb z c) (inside y 16 && is_set w (y - 1)) (T x y z)

-- the unit after a function was given its marks in a column
pub record ColumnGiven (u after : FunctionUnit) (q c w : ℕ) : Type 0 where
  pub table : (x y z : ℕ) → marked after x y z ≡ column_changed (marked u) q c w x y z
  pub functions : after.functions ≡ u.functions
  pub segments : after.segments ≡ u.segments
  pub columns : after.columns ≡ u.columns
  pub plan : after.plan ≡ no_plan
  pub sound : sound_of after ≡ true
  pub words : Words after

module _ (u : FunctionUnit) (q c w : ℕ) (n : Words u) (r : Somewhere q c) where
  below : place q c < length u.marks
  below = omega (arith, n.count)

  column_at : (x y z : ℕ) → marked (with_word u q c w) x y z ≡ column_changed (marked u) q c w x y z
  unfolding marked
  column_at x y z = go (eqb x q && eqb z c) refl
    where
      here : (b : Bool) → (true && (b && true)) && is_set w (y - 1) ≡ b && is_set w (y - 1)
      here true = refl
      here false = refl

      go : (t : Bool) → eqb x q && eqb z c ≡ t
          → somewhere x y z && is_set (get_or (set u.marks (place q c) w) (place x z) 0) (y - 1) ≡ cond t (inside y 16 && is_set w (y - 1)) (marked u x y z)
      go true e =
          let p = eqb-true x q (and_left (eqb x q) _ e) in
          let p2 = eqb-true z c (and_right (eqb x q) _ e) in
          rw (p, p2, get_or-set_same u.marks (place q c) w 0 below, inside_of q 4 r.tag1 r.tag4, inside_of c 32 r.column1 r.column32)
          (here (inside y 16))
      go false e =
          and_cong (somewhere x y z) _ _
          (λ h. ap (λ v. is_set v (y - 1)) (get_or-set_other u.marks (place q c) (place x z) w 0
          (λ i. let a = placed x y z h in nowhere (sym e ∙ and_true (eq-eqb x q (omega arith)) (eq-eqb z c (omega arith))))))

  column_inside : q ≤ u.functions → c ≤ u.columns → w < 2 ^ u.segments → Inside u → Inside (with_word u q c w)
  column_inside f k l h x y z e =
      by_test (eqb x q && eqb z c)
      (λ t.
      let p = eqb-true x q (and_left (eqb x q) _ t) in
      let p2 = eqb-true z c (and_right (eqb x q) _ t) in
      let b : inside y 16 && is_set w (y - 1) ≡ true = sym (ap (λ k. cond k (inside y 16 && is_set w (y - 1)) (marked u x y z)) t) ∙ sym (column_at x y z) ∙ e in
      let i = within y 16 (and_left (inside y 16) _ b) in
      let o = set_below w u.segments (y - 1) l (and_right (inside y 16) _ b) in
      (omega arith, omega arith, omega arith))
      (λ t. h x y z (sym (ap (λ k. cond k (inside y 16 && is_set w (y - 1)) (marked u x y z)) t) ∙ sym (column_at x y z) ∙ e))

  column_words : w < 2 ^ 16 → Words (with_word u q c w)
  column_words l = record { count = length-set u.marks (place q c) w ∙ n.count; small = λ k. small k (ℕ_discrete k (place q c)) }
    where
      small : (k : ℕ) → Dec (k ≡ place q c) → get_or (set u.marks (place q c) w) k 0 < 2 ^ 16
      small k (yes e) = rw (e, get_or-set_same u.marks (place q c) w 0 below) l
      small k (no ne) = rw (get_or-set_other u.marks (place q c) k w 0 ne) (n.small k)

pub column_given : (u : FunctionUnit) (q c w : ℕ) → Words u → column_answer u q c w ≡ Ok tt → ColumnGiven u (column_of u q c w).unit q c w
unfolding column_of no_plan
column_given u q c w n e = subst (λ (a : Answer). ColumnGiven u (outcome a u (with_word u q c w)).unit q c w) (sym e) after
  where
    after : ColumnGiven u (with_word u q c w) q c w
    after =
        let a = column_accepted u q c w e in
        let r = column_range u q c w e in
        let d = sound_has u a.sound in
        let t = within q u.functions a.tag in
        let k = within c u.columns a.column in
        let s = within u.segments 16 d.segments in
        record {
          table = column_at u q c w n r;
          functions = refl;
          segments = refl;
          columns = refl;
          plan = refl;
          sound = sound_of_lem (with_word u q c w) (record {
            functions = d.functions;
            segments = d.segments;
            columns = d.columns;
            plan = refl;
            marks = inside_test (with_word u q c w) (column_inside u q c w n r t.most k.most a.word (inside_means u d.marks));
          });
          words = column_words u q c w n r (lt_of_lt_of_le a.word (pow_mono s.most));
        }

-- A unit filled column by column

-- every mark of a table lies within the counts
abbrev pub InCounts : ℕ → ℕ → ℕ → Table → Type 0
InCounts f s c T = (x y z : ℕ) → T x y z ≡ true → (somewhere x y z ≡ true) × (x ≤ f) × (y ≤ s) × (z ≤ c)

-- it begins without marks
pub unit_of_none : (f s c : ℕ) (T : Table) → empty ≡ T → blank f s c ≡ unit_of f s c T
unit_of_none f s c T e = unit_of_same (blank f s c) T (blank_words f s c) refl (blank_table f s c ∙ e)

-- given a column's word, the unit of a table is that of the table with the column changed
pub unit_of_column : (f s c : ℕ) (T U : Table) (q k w : ℕ) → good_counts f s c ≡ true → InCounts f s c T → inside q f ≡ true → inside k c ≡ true → w < 2 ^ s
    → column_changed T q k w ≡ U → (column_of (unit_of f s c T) q k w).unit ≡ unit_of f s c U
unfolding unit_of
unit_of_column f s c T U q k w counts marks tag column small e =
    let u = unit_of f s c T in
    let v = (column_of u q k w).unit in
    let g = column_given u q k w (unit_of_words f s c T) (column_done u q k w (unit_of_sound f s c T counts marks) tag column small) in
    let same : marked u ≡ T = unit_of_table f s c T (λ x y z h. (marks x y z h).0) in
    let table : marked v ≡ U = (λ i x y z. g.table x y z i) ∙ ap (λ X. column_changed X q k w) same ∙ e in
    unit_of_same v U g.words g.plan table ∙ rw (g.functions, g.segments, g.columns)

-- An edit by the word of its column

module _ (u : FunctionUnit) (q s c : ℕ) (n : Words u) (e : spot_answer u q s c ≡ Ok tt) where
  old_word : get_or (columns_of u q) (c - 1) 0 ≡ word_at u q c
  old_word = let r = edit_ranges u q s c e in columns_word_lem u q c r.tag1 r.tag4 r.column1 r.column32

  old_fits : word_at u q c < 2 ^ u.segments
  old_fits = let r = edit_ranges u q s c e in sound_word u (place q c) n (accepted u q s c e).sound (omega arith)

  word_done : (w : ℕ) → w < 2 ^ u.segments → column_answer u q c w ≡ Ok tt
  word_done w l = let a = accepted u q s c e in column_done u q c w a.sound a.tag a.column l

  -- an accepted mark gives the column its old word with one mark more, an accepted unmark the old word with one less
  pub mark_by_column : {columns : List ℕ} {w : ℕ} {r : Outcome} → columns ≡ columns_of u q → w ≡ set_bit (get_or columns (c - 1) 0) (s - 1)
      → r ≡ column_of u q c w → r ≡ mark_of u q s c
  unfolding column_of mark_of
  mark_by_column f g h =
      let k = edit_ranges u q s c e in
      let d = word_done (set_bit (word_at u q c) (s - 1)) (set_lt u.segments (word_at u q c) (s - 1) (omega arith) old_fits) in
      h ∙ rw (g, f, old_word, e, d) refl

  pub unmark_by_column : {columns : List ℕ} {w : ℕ} {r : Outcome} → columns ≡ columns_of u q → w ≡ clear_bit (get_or columns (c - 1) 0) (s - 1)
      → r ≡ column_of u q c w → r ≡ unmark_of u q s c
  unfolding column_of unmark_of
  unmark_by_column f g h =
      let d = word_done (clear_bit (word_at u q c) (s - 1)) (clear_lt u.segments (word_at u q c) (s - 1) old_fits) in
      h ∙ rw (g, f, old_word, e, d) refl
