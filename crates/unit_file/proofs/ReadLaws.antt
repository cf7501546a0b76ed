-- What the tests of a file say as facts: its marks, those beyond the columns, its offsets, an accepted file. Assumes nothing.
use Rattle.std.proofs.Common.{Ok, Err}
use Prim.Native.Nat.{ℕ, ◌+◌, ◌-◌, ◌*◌, ◌/◌, ◌%◌, ◌^◌, ◌≤◌, ◌<◌}
use mathlib.Core.Path.{◌≡◌, sym, ap, ◌∙◌, subst}
use mathlib.Core.Bool.{Bool, true, false, not, ◌&&◌}
use mathlib.Core.List.{List}
use native.Mathlib.Nat.{mod-lt}
use native.Mathlib.Omega.{arith}
use borrow.Author.Tests.{leb-true, leb-false, lt-leb, le-leb, eqb-true, eq-eqb, ne_eqb, not-true}
use lib.Dec.{leb, eqb}
use lib.ListN.{length}
use Rattle.words.specs.Bits.{is_set}
use Rattle.words.specs.Below.{some_below}
use Rattle.words.proofs.Tests.{nowhere, and_left, and_right, and_true, not_passed, by_test}
use Rattle.words.proofs.BitLaws.{set_below, high_bit}
use Rattle.words.proofs.BelowLaws.{some_intro, some_none}
use Rattle.unit.specs.Answers.{Answer}
use Rattle.unit.specs.declared.Refusal.{Refusal}
use Rattle.unit.specs.declared.Refusal.TheVariants.{NotSound, BadLength, BadHeader, MarkBeyondColumns}
use Rattle.unit.specs.Unit.{inside, good_counts}
use Rattle.unit.specs.Calls.{check}
use Rattle.unit.proofs.Laws.{Within, within, inside_of, never_done, check_ok, check_next}
use Rattle.unit_file.specs.File.{offset_of, file_length}
use Rattle.unit_file.specs.Read.{byte_in, word16, word32, functions_in, segments_in, columns_in, word_place, file_table, good_header, marks_beyond, read_answer}
use Rattle.unit_file.specs.InnerRead.{Counted, Clean, body_answer}
use Rattle.unit_file.proofs.PlaceLaws.{flat_place, flat_tag, tag_flat, tag_flat_inside}

-- Marks

-- a mark of the file
pub record FileMark (file : List ℕ) (k r c : ℕ) : Type 0 where
  pub tag : Within k (functions_in file)
  pub segment : Within r (segments_in file)
  pub column : Within c 32
  pub set : is_set (word32 file (word_place file k r)) (c - 1) ≡ true

pub file_mark : (file : List ℕ) (k r c : ℕ) → file_table file k r c ≡ true → FileMark file k r c
unfolding file_table
file_mark file k r c e =
    let e1 = and_right (inside k (functions_in file)) _ e in
    let e2 = and_right (inside r (segments_in file)) _ e1 in
    record {
      tag = within k (functions_in file) (and_left (inside k (functions_in file)) _ e);
      segment = within r (segments_in file) (and_left (inside r (segments_in file)) _ e1);
      column = within c 32 (and_left (inside c 32) _ e2);
      set = and_right (inside c 32) _ e2;
    }

pub mark_file : (file : List ℕ) (k r c : ℕ) → FileMark file k r c → file_table file k r c ≡ true
unfolding file_table
mark_file file k r c m =
    and_true (inside_of k (functions_in file) m.tag.least m.tag.most)
    (and_true (inside_of r (segments_in file) m.segment.least m.segment.most)
    (and_true (inside_of c 32 m.column.least m.column.most) m.set))

-- Marks beyond the columns

module _ (file : List ℕ) (n : Counted file) where
  pub beyond_intro : (k r c : ℕ) → FileMark file k r c → columns_in file < c → marks_beyond file ≡ true
  unfolding marks_beyond
  beyond_intro k r c m l =
      some_intro 5 (λ k. some_below 17 (λ r. some_below 33 (λ c. file_table file k r c && not (leb c (columns_in file))))) k (omega (arith, m.tag.most, n.functions4))
      (some_intro 17 (λ r. some_below 33 (λ c. file_table file k r c && not (leb c (columns_in file)))) r (omega (arith, m.segment.most, n.segments16))
      (some_intro 33 (λ c. file_table file k r c && not (leb c (columns_in file))) c (omega (arith, m.column.most))
      (and_true (mark_file file k r c m) (ap not (lt-leb c (columns_in file) l)))))

  pub beyond_false : ((k r c : ℕ) → FileMark file k r c → c ≤ columns_in file) → marks_beyond file ≡ false
  unfolding marks_beyond
  beyond_false h =
      some_none 5 (λ k. some_below 17 (λ r. some_below 33 (λ c. file_table file k r c && not (leb c (columns_in file))))) (λ k _.
      some_none 17 (λ r. some_below 33 (λ c. file_table file k r c && not (leb c (columns_in file)))) (λ r _.
      some_none 33 (λ c. file_table file k r c && not (leb c (columns_in file))) (λ c _.
      not_passed (file_table file k r c && not (leb c (columns_in file))) (λ e.
      let m = file_mark file k r c (and_left (file_table file k r c) _ e) in
      nowhere (sym (not-true (leb c (columns_in file)) (and_right (file_table file k r c) _ e)) ∙ le-leb c (columns_in file) (h k r c m))))))

  -- a word of the tables that is not below 2 ^ columns has such a mark
  pub beyond_found : (i : ℕ) → i < functions_in file * segments_in file → word32 file (4 + 2 * functions_in file + 4 * i) < 2 ^ 32
      → 2 ^ columns_in file ≤ word32 file (4 + 2 * functions_in file + 4 * i) → marks_beyond file ≡ true
  beyond_found i l small h =
      let f = functions_in file in
      let s = segments_in file in
      let w = word32 file (4 + 2 * f + 4 * i) in
      let e : columns_in file + (32 - columns_in file) ≡ 32 = omega (arith, n.columns32) in
      let b = high_bit (32 - columns_in file) (columns_in file) w h (subst (λ (m : ℕ). w < 2 ^ m) (sym e) small) in
      let j : b.at + 1 - 1 ≡ b.at = omega arith in
      beyond_intro (i / s + 1) (i % s + 1) (b.at + 1)
      (record {
        tag = let t = flat_tag f s i n.segments1 l in omega arith;
        segment = let t = mod-lt i n.segments1 in omega arith;
        column = omega (arith, b.most, e);
        set = ap (λ x. is_set (word32 file (word_place file (i / s + 1) (i % s + 1))) x) j ∙ ap (λ x. is_set (word32 file x) b.at) (sym (flat_place f s i)) ∙ b.set;
      })
      (omega (arith, b.least))

  -- where no word has one there is none
  pub beyond_none : ((i : ℕ) → i < functions_in file * segments_in file → word32 file (4 + 2 * functions_in file + 4 * i) < 2 ^ columns_in file)
      → marks_beyond file ≡ false
  beyond_none h =
      beyond_false (λ k r c m.
      let f = functions_in file in
      let s = segments_in file in
      let i = s * (k - 1) + (r - 1) in
      let l = h i (tag_flat_inside f s k r m.tag.least m.tag.most m.segment.least m.segment.most) in
      let o = set_below (word32 file (4 + 2 * f + 4 * i)) (columns_in file) (c - 1) l (ap (λ x. is_set (word32 file x) (c - 1)) (tag_flat f s k r) ∙ m.set) in
      omega arith)

-- no mark of a clean file lies beyond its columns
pub clean_columns : (file : List ℕ) → Clean file → (k r c : ℕ) → FileMark file k r c → c ≤ columns_in file
clean_columns file d k r c m =
    by_test (leb c (columns_in file)) (leb-true c (columns_in file))
    (λ e. nowhere (sym d.within ∙ beyond_intro file d.whole.counts k r c m (leb-false c (columns_in file) e)))

-- The header

-- offset i + 1 says where its table begins
abbrev pub OffsetGood : List ℕ → ℕ → Type 0
OffsetGood file i = word16 file (4 + 2 * i) ≡ offset_of (functions_in file) (segments_in file) (i + 1)

pub header_byte : (file : List ℕ) → (byte_in file 3 ≡ 0 → ⊥) → good_header file ≡ false
unfolding good_header
header_byte file ne = rw (ne_eqb (byte_in file 3) 0 ne)

pub header_offset : (file : List ℕ) (i : ℕ) → i < functions_in file → (OffsetGood file i → ⊥) → good_header file ≡ false
unfolding good_header
header_offset file i l ne =
    not_passed (good_header file) (λ e.
    nowhere (sym (not-true (some_below (functions_in file) (λ j. not (eqb (word16 file (4 + 2 * j)) (offset_of (functions_in file) (segments_in file) (j + 1))))) (and_right (eqb (byte_in file 3) 0) _ e))
    ∙ some_intro (functions_in file) (λ j. not (eqb (word16 file (4 + 2 * j)) (offset_of (functions_in file) (segments_in file) (j + 1)))) i l
    (ap not (ne_eqb (word16 file (4 + 2 * i)) (offset_of (functions_in file) (segments_in file) (i + 1)) ne))))

pub header_good : (file : List ℕ) → byte_in file 3 ≡ 0 → ((i : ℕ) → i < functions_in file → OffsetGood file i) → good_header file ≡ true
unfolding good_header
header_good file z h =
    and_true (eq-eqb (byte_in file 3) 0 z)
    (ap not (some_none (functions_in file) (λ j. not (eqb (word16 file (4 + 2 * j)) (offset_of (functions_in file) (segments_in file) (j + 1))))
    (λ i l. ap not (eq-eqb (word16 file (4 + 2 * i)) (offset_of (functions_in file) (segments_in file) (i + 1)) (h i l)))))

-- Accepted files

pub counted : (file : List ℕ) → 4 ≤ length file → good_counts (functions_in file) (segments_in file) (columns_in file) ≡ true → Counted file
counted file l g =
    let g2 = and_right (inside (functions_in file) 4) _ g in
    let f = within (functions_in file) 4 (and_left (inside (functions_in file) 4) _ g) in
    let s = within (segments_in file) 16 (and_left (inside (segments_in file) 16) _ g2) in
    let c = within (columns_in file) 32 (and_right (inside (segments_in file) 16) _ g2) in
    omega arith

pub accepted_clean : (file : List ℕ) → read_answer file ≡ Ok tt → Clean file
unfolding read_answer
accepted_clean file e =
    let g = good_counts (functions_in file) (segments_in file) (columns_in file) in
    let z = eqb (length file) (file_length (functions_in file) (segments_in file)) in
    let e1 = check_next (leb 4 (length file)) BadLength _ e in
    let e2 = check_next g NotSound _ e1 in
    let e3 = check_next z BadLength _ e2 in
    let e4 = check_next (good_header file) BadHeader _ e3 in
    record {
      whole = record {
        counts = counted file (leb-true 4 (length file) (check_ok (leb 4 (length file)) BadLength _ e)) (check_ok g NotSound _ e1);
        size = eqb-true (length file) (file_length (functions_in file) (segments_in file)) (check_ok z BadLength _ e2);
      };
      within = not-true (marks_beyond file) (check_ok (not (marks_beyond file)) MarkBeyondColumns _ e4);
    }

-- past the counts the rest is tried
pub read_body : (file : List ℕ) → 4 ≤ length file → good_counts (functions_in file) (segments_in file) (columns_in file) ≡ true
    → body_answer file ≡ read_answer file
unfolding read_answer body_answer
read_body file l g = simp (le-leb 4 (length file) l, g)

-- where the counts are refused the file is
pub read_counts : (file : List ℕ) (why : Refusal) → 4 ≤ length file
    → check (good_counts (functions_in file) (segments_in file) (columns_in file)) NotSound (Ok tt) ≡ Err why → read_answer file ≡ Err why
unfolding read_answer
read_counts file why l e = rw (le-leb 4 (length file) l) (go (good_counts (functions_in file) (segments_in file) (columns_in file)) _ e)
  where
    go : (b : Bool) (next : Answer) → check b NotSound (Ok tt) ≡ Err why → check b NotSound next ≡ Err why
    go true next h = never_done (sym h)
    go false next h = h
