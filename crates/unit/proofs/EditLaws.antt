-- An accepted edit changes the table at exactly its place, drops the plan and leaves a sound unit; a refused one leaves the unit; a table has one
-- list of words. Assumes nothing.
use Rattle.std.proofs.Common.{Ok, Err}
use Prim.Native.Nat.{ℕ, zero, suc, ◌+◌, ◌-◌, ◌/◌, ◌%◌, ◌^◌, ◌<◌, ◌≤◌}
use mathlib.Core.Path.{◌≡◌, refl, ap, ◌∙◌, sym, subst}
use mathlib.Core.Bool.{Bool, true, false, cond, ◌&&◌}
use mathlib.Core.List.{List}
use native.Mathlib.Omega.{arith}
use native.Mathlib.Decide.{ℕ_discrete}
use lib.Dec.{eqb}
use lib.ListN.{length, get_or, set, replicate, length-set, length-replicate}
use lib.Seq.{get_or-set_same, get_or-set_other, ext_get_or}
use borrow.Author.Tests.{eq-eqb, eqb-true}
use Rattle.words.specs.Bits.{is_set, set_bit, clear_bit}
use Rattle.words.proofs.Tests.{nowhere, and_left, and_right, and_cong, by_test}
use Rattle.words.proofs.BitLaws.{Changed, set_changed, clear_changed, set_lt, clear_lt, same_bits, bit_of_zero}
use Rattle.unit.specs.declared.FunctionUnit.{FunctionUnit}
use Rattle.unit.specs.declared.Refusal.{Refusal}
use Rattle.unit.specs.Answers.{Answer}
use Rattle.unit.specs.Table.{empty, changed}
use Rattle.unit.specs.Unit.{inside, somewhere, place, word_at, marked, sound_of, good_counts}
use Rattle.unit.specs.Calls.{spot_answer, no_plan, blank, with_word, outcome, mark_of, unmark_of}
use Rattle.unit.proofs.Laws.{somewhere_of, placed, sound_has, sound_of_lem, Ranges, accepted, edit_ranges}
use Rattle.unit.proofs.SoundLaws.{Words, Inside, inside_means, inside_test, word_mark}

-- The table

word_other : (m : List ℕ) (i w k j x : ℕ) {b : Bool} → i < length m → Changed (get_or m i 0) w k b → (x ≡ i → j ≡ k → ⊥)
    → is_set (get_or (set m i w) x 0) j ≡ is_set (get_or m x 0) j
word_other m i w k j x h d ne = go (ℕ_discrete x i)
  where
    go : Dec (x ≡ i) → is_set (get_or (set m i w) x 0) j ≡ is_set (get_or m x 0) j
    go (yes e) =
        ap (λ n. is_set (get_or (set m i w) n 0) j) e ∙ ap (λ n. is_set n j) (get_or-set_same m i w 0 h) ∙ d.off j (ne e)
        ∙ ap (λ n. is_set (get_or m n 0) j) (sym e)
    go (no n) = ap (λ n. is_set n j) (get_or-set_other m i x w 0 n)

apart : (q s c x y z : ℕ) → 1 ≤ q → 1 ≤ s → 1 ≤ c → c ≤ 32 → somewhere x y z ≡ true
    → ((x ≡ q) → (y ≡ s) → (z ≡ c) → ⊥) → place x z ≡ place q c → y - 1 ≡ s - 1 → ⊥
apart q s c x y z q1 s1 c1 c32 h ne e f = let a = placed x y z h in ne (omega arith) (omega arith) (omega arith)

module _ (u : FunctionUnit) (q s c w : ℕ) (b : Bool) (r : Ranges u q s c) (n : length u.marks ≡ 128)
    (d : Changed (word_at u q c) w (s - 1) b) where
  below : place q c < length u.marks
  below = omega arith

  edit_at : (x y z : ℕ) → marked (with_word u q c w) x y z ≡ changed (marked u) q s c b x y z
  unfolding marked
  edit_at x y z = go (eqb x q && (eqb y s && eqb z c)) refl
    where
      go : (t : Bool) → eqb x q && (eqb y s && eqb z c) ≡ t
          → somewhere x y z && is_set (get_or (set u.marks (place q c) w) (place x z) 0) (y - 1) ≡ cond t b (marked u x y z)
      go true e =
          let p = eqb-true x q (and_left (eqb x q) _ e) in
          let g = and_right (eqb x q) _ e in
          let p2 = eqb-true y s (and_left (eqb y s) _ g) in
          let p3 = eqb-true z c (and_right (eqb y s) _ g) in
          rw (p, p2, p3)
          (ap (λ k. k && is_set (get_or (set u.marks (place q c) w) (place q c) 0) (s - 1))
          (somewhere_of q s c r.tag1 r.tag4 r.segment1 r.segment16 r.column1 r.column32)
          ∙ ap (λ k. is_set k (s - 1)) (get_or-set_same u.marks (place q c) w 0 below) ∙ d.at)
      go false e =
          and_cong (somewhere x y z) _ _
          (λ h. word_other u.marks (place q c) w (s - 1) (y - 1) (place x z) below d
          (apart q s c x y z r.tag1 r.segment1 r.column1 r.column32 h
          (λ p p2 p3. nowhere (sym e ∙ simp (eq-eqb x q p, eq-eqb y s p2, eq-eqb z c p3)))))

  edit_table : marked (with_word u q c w) ≡ changed (marked u) q s c b
  edit_table = λ i x y z. edit_at x y z i

  -- a mark of the edited unit is an old one, or lies at the accepted place
  edit_inside : Inside u → Inside (with_word u q c w)
  edit_inside h x y z e =
      by_test (eqb x q && (eqb y s && eqb z c))
      (λ t.
      let p = eqb-true x q (and_left (eqb x q) _ t) in
      let g = and_right (eqb x q) _ t in
      let p2 = eqb-true y s (and_left (eqb y s) _ g) in
      let p3 = eqb-true z c (and_right (eqb y s) _ g) in
      (omega (arith, r.functions), omega (arith, r.segments), omega (arith, r.columns)))
      (λ t. h x y z (sym (ap (λ k. cond k b (marked u x y z)) t) ∙ sym (edit_at x y z) ∙ e))

  edit_sound : sound_of u ≡ true → sound_of (with_word u q c w) ≡ true
  unfolding no_plan
  edit_sound h =
      let k = sound_has u h in
      sound_of_lem (with_word u q c w) (record {
        functions = k.functions;
        segments = k.segments;
        columns = k.columns;
        plan = refl;
        marks = inside_test (with_word u q c w) (edit_inside (inside_means u k.marks));
      })

  edit_words : Words u → w < 2 ^ 16 → Words (with_word u q c w)
  edit_words m l = record { count = length-set u.marks (place q c) w ∙ n; small = λ k. small k (ℕ_discrete k (place q c)) }
    where
      small : (k : ℕ) → Dec (k ≡ place q c) → get_or (set u.marks (place q c) w) k 0 < 2 ^ 16
      small k (yes e) = rw (e, get_or-set_same u.marks (place q c) w 0 below) l
      small k (no ne) = rw (get_or-set_other u.marks (place q c) k w 0 ne) (m.small k)

-- Accepted edits: what the unit then is

-- the unit after an accepted edit that made the mark at q, s, c so
pub record Edited (u after : FunctionUnit) (q s c : ℕ) (b : Bool) : Type 0 where
  pub table : marked after ≡ changed (marked u) q s c b
  pub functions : after.functions ≡ u.functions
  pub segments : after.segments ≡ u.segments
  pub columns : after.columns ≡ u.columns
  pub plan : after.plan ≡ no_plan
  pub sound : sound_of after ≡ true
  pub words : Words after

edited : (u : FunctionUnit) (q s c w : ℕ) (b : Bool) → Words u → spot_answer u q s c ≡ Ok tt
    → Changed (word_at u q c) w (s - 1) b → w < 2 ^ 16 → Edited u (with_word u q c w) q s c b
edited u q s c w b n e d l =
    let r = edit_ranges u q s c e in
    record {
      table = edit_table u q s c w b r n.count d;
      functions = refl;
      segments = refl;
      columns = refl;
      plan = refl;
      sound = edit_sound u q s c w b r n.count d (accepted u q s c e).sound;
      words = edit_words u q s c w b r n.count d n l;
    }

pub mark_accepted : (u : FunctionUnit) (q s c : ℕ) → Words u → spot_answer u q s c ≡ Ok tt → Edited u (mark_of u q s c).unit q s c true
unfolding mark_of
mark_accepted u q s c n e =
    let r = edit_ranges u q s c e in
    let w = set_bit (word_at u q c) (s - 1) in
    subst (λ (a : Answer). Edited u (outcome a u (with_word u q c w)).unit q s c true) (sym e)
    (edited u q s c w true n e (set_changed (word_at u q c) (s - 1) (omega arith))
    (set_lt 16 (word_at u q c) (s - 1) (omega arith) (n.small (place q c))))

pub unmark_accepted : (u : FunctionUnit) (q s c : ℕ) → Words u → spot_answer u q s c ≡ Ok tt → Edited u (unmark_of u q s c).unit q s c false
unfolding unmark_of
unmark_accepted u q s c n e =
    let r = edit_ranges u q s c e in
    let w = clear_bit (word_at u q c) (s - 1) in
    subst (λ (a : Answer). Edited u (outcome a u (with_word u q c w)).unit q s c false) (sym e)
    (edited u q s c w false n e (clear_changed (word_at u q c) (s - 1) (omega arith))
    (clear_lt 16 (word_at u q c) (s - 1) (n.small (place q c))))

-- Refused edits leave the unit

pub mark_refused : (u : FunctionUnit) (q s c : ℕ) (why : Refusal) → spot_answer u q s c ≡ Err why → (mark_of u q s c).unit ≡ u
unfolding mark_of
mark_refused u q s c why e = ap (λ a. (outcome a u (with_word u q c (set_bit (word_at u q c) (s - 1)))).unit) e

pub unmark_refused : (u : FunctionUnit) (q s c : ℕ) (why : Refusal) → spot_answer u q s c ≡ Err why → (unmark_of u q s c).unit ≡ u
unfolding unmark_of
unmark_refused u q s c why e = ap (λ a. (outcome a u (with_word u q c (clear_bit (word_at u q c) (s - 1)))).unit) e

-- The answers of the edits

pub outcome_answer : (a : Answer) (old new : FunctionUnit) → (outcome a old new).answer ≡ a
outcome_answer (Ok _) old new = refl
outcome_answer (Err why) old new = refl

pub mark_answer : (u : FunctionUnit) (q s c : ℕ) → (mark_of u q s c).answer ≡ spot_answer u q s c
unfolding mark_of
mark_answer u q s c = outcome_answer (spot_answer u q s c) u (with_word u q c (set_bit (word_at u q c) (s - 1)))

pub unmark_answer : (u : FunctionUnit) (q s c : ℕ) → (unmark_of u q s c).answer ≡ spot_answer u q s c
unfolding unmark_of
unmark_answer u q s c = outcome_answer (spot_answer u q s c) u (with_word u q c (clear_bit (word_at u q c) (s - 1)))

-- A fresh unit

zeros_at : (n k : ℕ) → get_or (replicate n zero) k 0 ≡ 0
zeros_at zero k = refl
zeros_at (suc n) zero = refl
zeros_at (suc n) (suc k) = zeros_at n k

pub blank_words : (f s c : ℕ) → Words (blank f s c)
blank_words f s c = record { count = length-replicate {A = ℕ} 128 0; small = λ k. rw (zeros_at 128 k) (omega arith) }

pub blank_table : (f s c : ℕ) → marked (blank f s c) ≡ empty
unfolding marked
blank_table f s c = λ i x y z. none x y z i
  where
    none : (x y z : ℕ) → somewhere x y z && is_set (get_or (replicate 128 0) (place x z) 0) (y - 1) ≡ false
    none x y z = rw (zeros_at 128 (place x z), bit_of_zero (y - 1)) (and_false (somewhere x y z))
      where
        and_false : (b : Bool) → b && false ≡ false
        and_false true = refl
        and_false false = refl

pub fresh_sound : (f s c : ℕ) → good_counts f s c ≡ true → sound_of (blank f s c) ≡ true
unfolding no_plan
fresh_sound f s c e =
    let g2 = and_right (inside f 4) _ e in
    sound_of_lem (blank f s c) (record {
      functions = and_left (inside f 4) _ e;
      segments = and_left (inside s 16) _ g2;
      columns = and_right (inside s 16) _ g2;
      plan = refl;
      marks = inside_test (blank f s c) (λ x y z m. nowhere (sym (ap (λ t. t x y z) (blank_table f s c)) ∙ m));
    })

-- Units with the same table

pub same_words : (u v : FunctionUnit) → Words u → Words v → marked u ≡ marked v → u.marks ≡ v.marks
same_words u v m n e =
    ext_get_or 0 u.marks v.marks (m.count ∙ sym n.count)
    (λ k l. same_bits 16 (get_or u.marks k 0) (get_or v.marks k 0) (m.small k) (n.small k) (λ j lj. at k (omega (arith, m.count)) j lj))
  where
    at : (k : ℕ) → k < 128 → (j : ℕ) → j < 16 → is_set (get_or u.marks k 0) j ≡ is_set (get_or v.marks k 0) j
    at k l j lj = sym (word_mark u k j l lj) ∙ ap (λ f. f (k / 32 + 1) (j + 1) (k % 32 + 1)) e ∙ word_mark v k j l lj
