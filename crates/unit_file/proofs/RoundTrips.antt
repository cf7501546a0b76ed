-- What is written is read back, and what is read is written as it was. Assumes nothing.
use Rattle.std.proofs.Common.{Ok}
use mathlib.Core.Path.{◌≡◌, refl, sym, ap, ◌∙◌}
use mathlib.Core.Bool.{Bool, true, false, not, ◌&&◌}
use mathlib.Core.List.{List}
use Prim.Native.Nat.{ℕ, ◌+◌, ◌-◌, ◌*◌, ◌^◌, ◌<◌}
use native.Mathlib.Omega.{arith}
use lib.Dec.{leb, eqb}
use lib.ListN.{length}
use borrow.Author.Tests.{le-leb, eq-eqb, eqb-true, not-true}
use Rattle.words.specs.Bits.{is_set}
use Rattle.words.specs.Below.{some_below}
use Rattle.words.proofs.Tests.{nowhere, and_left, and_right, and_true, same_test, by_test, not_passed}
use Rattle.words.proofs.BitLaws.{same_bits}
use Rattle.words.proofs.BelowLaws.{some_intro, some_none, word_lt, word_set}
use Rattle.unit.specs.declared.FunctionUnit.{FunctionUnit}
use Rattle.unit.specs.declared.Refusal.TheVariants.{NotSound, BadLength, BadHeader}
use Rattle.unit.specs.Table.{Table}
use Rattle.unit.specs.Unit.{inside, good_counts, marked, sound_of}
use Rattle.unit.specs.Calls.{unit_of}
use Rattle.unit.proofs.Laws.{check_ok, check_next, within, inside_of, somewhere_of, sound_has}
use Rattle.unit.proofs.SoundLaws.{marked_place, inside_means}
use Rattle.unit.proofs.TableLaws.{unit_of_table}
use Rattle.unit_file.specs.File.{offset_of, file_length, segment_word, file_of}
use Rattle.unit_file.specs.Read.{byte_in, word16, word32, functions_in, segments_in, columns_in, file_table, good_header, marks_beyond, read_answer, read_of}
use Rattle.unit_file.specs.Write.{unit_file}
use Rattle.unit_file.specs.RoundTrips.{WrittenRead, ReadWritten}
use Rattle.unit_file.proofs.AcceptedLaws.{accepted}
use Rattle.unit_file.proofs.ByteLaws.{Bytes}
use Rattle.unit_file.proofs.FileLaws.{file_length_lem, file_head, file_offset, file_word, file_of_lem}

-- a mark within the counts
pub record Counted (f s c k r x : ℕ) : Type 0 where
  pub tag : inside k f ≡ true
  pub segment : inside r s ≡ true
  pub column : inside x c ≡ true

-- Written, then read

module _ (f s c : ℕ) (T : Table) (good : good_counts f s c ≡ true) (counted : (k r x : ℕ) → T k r x ≡ true → Counted f s c k r x) where
  -- where the file says a mark, the table has it
  says : (k r x : ℕ) → inside k f ≡ true → inside r s ≡ true → inside x 32 ≡ true
      → is_set (word32 (file_of f s c T) (offset_of f s k + 4 * (r - 1))) (x - 1) ≡ T k r x
  says k r x hk hr hx =
      let a = within k f hk in
      let b = within r s hr in
      let d = within x 32 hx in
      let ek : k - 1 + 1 ≡ k = omega arith in
      let er : r - 1 + 1 ≡ r = omega arith in
      let ex : x - 1 + 1 ≡ x = omega arith in
      ap (λ w. is_set w (x - 1)) (file_word f s c T (k - 1) (r - 1) (omega arith) (omega arith))
      ∙ word_set 32 (λ i. T (k - 1 + 1) (r - 1 + 1) (i + 1)) (x - 1) (omega arith)
      ∙ rw (ek, er, ex)

  -- a column of the unit is one of 32
  wide : (x : ℕ) → inside x c ≡ true → inside x 32 ≡ true
  wide x h =
      let w = within x c h in
      let n = within c 32 (and_right (inside s 16) _ (and_right (inside f 4) _ good)) in
      inside_of x 32 w.least (omega arith)

  table_at : (k r x : ℕ) → file_table (file_of f s c T) k r x ≡ T k r x
  unfolding file_table file_of
  table_at k r x = same_test (inside k f && tail) (T k r x) there back
    where
      word : Bool
      word = is_set (word32 (file_of f s c T) (offset_of f s k + 4 * (r - 1))) (x - 1)

      tail : Bool
      tail = inside r s && (inside x 32 && word)

      there : inside k f && tail ≡ true → T k r x ≡ true
      there h =
          let h2 = and_right (inside k f) tail h in
          let h3 = and_right (inside r s) (inside x 32 && word) h2 in
          sym (says k r x (and_left (inside k f) tail h) (and_left (inside r s) (inside x 32 && word) h2) (and_left (inside x 32) word h3))
          ∙ and_right (inside x 32) word h3

      back : T k r x ≡ true → inside k f && tail ≡ true
      back h =
          let p = counted k r x h in
          let w = wide x p.column in
          and_true p.tag (and_true p.segment (and_true w (says k r x p.tag p.segment w ∙ h)))

  pub file_table_lem : file_table (file_of f s c T) ≡ T
  file_table_lem = λ i k r x. table_at k r x i

  header : good_header (file_of f s c T) ≡ true
  unfolding good_header file_of
  header =
      let f4 = within f 4 (and_left (inside f 4) _ good) in
      let s16 = within s 16 (and_left (inside s 16) _ (and_right (inside f 4) _ good)) in
      ap not (some_none f (λ i. not (eqb (word16 (file_of f s c T) (4 + 2 * i)) (offset_of f s (i + 1))))
      (λ k l. ap not (eq-eqb (word16 (file_of f s c T) (4 + 2 * k)) (offset_of f s (k + 1)) (file_offset f s c T f4.most s16.most k l))))

  none_beyond : marks_beyond (file_of f s c T) ≡ false
  unfolding marks_beyond
  none_beyond =
      some_none 5 (λ k. some_below 17 (λ r. some_below 33 (λ x. beyond k r x)))
      (λ k _. some_none 17 (λ r. some_below 33 (λ x. beyond k r x))
      (λ r _. some_none 33 (λ x. beyond k r x) (λ x _. not_passed (beyond k r x) (refuted k r x))))
    where
      beyond : ℕ → ℕ → ℕ → Bool
      beyond k r x = file_table (file_of f s c T) k r x && not (leb x (columns_in (file_of f s c T)))

      refuted : (k r x : ℕ) → beyond k r x ≡ true → ⊥
      refuted k r x h =
          let mark = and_left (file_table (file_of f s c T) k r x) (not (leb x (columns_in (file_of f s c T)))) h in
          let out = and_right (file_table (file_of f s c T) k r x) (not (leb x (columns_in (file_of f s c T)))) h in
          let w = within x c (counted k r x (sym (table_at k r x) ∙ mark)).column in
          let e : leb x (columns_in (file_of f s c T)) ≡ true = ap (leb x) (file_head f s c T).columns ∙ le-leb x c w.most in
          nowhere (sym (not-true (leb x (columns_in (file_of f s c T))) out) ∙ e)

  pub file_answer : read_answer (file_of f s c T) ≡ Ok tt
  unfolding read_answer
  file_answer =
      let h = file_head f s c T in
      let n = file_length_lem f s c T in
      let long : leb 4 (length (file_of f s c T)) ≡ true = le-leb 4 (length (file_of f s c T)) (omega arith) in
      let exact : eqb (length (file_of f s c T)) (file_length f s) ≡ true = eq-eqb (length (file_of f s c T)) (file_length f s) n in
      rw (h.functions, h.segments, h.columns) (simp (long, good, exact, header, none_beyond))

  pub file_read : read_of (file_of f s c T) ≡ record { answer = (Ok tt); unit = unit_of f s c T }
  unfolding read_of
  file_read =
      let h = file_head f s c T in
      rw (file_answer, h.functions, h.segments, h.columns, file_table_lem)

-- the file of a sound unit is read as the unit of its counts and marks
pub unit_read : (u : FunctionUnit) → sound_of u ≡ true
    → read_of (unit_file u) ≡ record { answer = (Ok tt); unit = unit_of u.functions u.segments u.columns (marked u) }
unit_read u sound =
    let d = sound_has u sound in
    file_read u.functions u.segments u.columns (marked u)
    (and_true d.functions (and_true d.segments d.columns))
    (λ k r x m.
    let p = marked_place u k r x m in
    let i = inside_means u d.marks k r x m in
    record {
      tag = inside_of k u.functions p.tag1 i.0;
      segment = inside_of r u.segments p.segment1 i.1;
      column = inside_of x u.columns p.column1 i.2;
    })

pub written_read : (u : FunctionUnit) → WrittenRead u
unfolding unit_of
written_read u sound =
    let e = unit_read u sound in
    record {
      accepted = ap (λ o. o.answer) e;
      functions = ap (λ o. o.unit.functions) e;
      segments = ap (λ o. o.unit.segments) e;
      columns = ap (λ o. o.unit.columns) e;
      marks =
          ap (λ o. marked o.unit) e
          ∙ unit_of_table u.functions u.segments u.columns (marked u) (λ q r k m.
          let p = marked_place u q r k m in
          somewhere_of q r k p.tag1 p.tag4 p.segment1 p.segment16 p.column1 p.column32);
      plan = ap (λ o. o.unit.plan) e;
    }

-- Read, then written

-- accepted bytes are as long as a file, and their header is good
record Parts (b : List ℕ) : Type 0 where
  pub size : length b ≡ file_length (functions_in b) (segments_in b)
  pub header : good_header b ≡ true

accepted_parts : (b : List ℕ) → read_answer b ≡ Ok tt → Parts b
unfolding read_answer
accepted_parts b e =
    let e1 = check_next (leb 4 (length b)) BadLength _ e in
    let e2 = check_next (good_counts (functions_in b) (segments_in b) (columns_in b)) NotSound _ e1 in
    let e3 = check_next (eqb (length b) (file_length (functions_in b) (segments_in b))) BadLength _ e2 in
    record {
      size = eqb-true (length b) (file_length (functions_in b) (segments_in b)) (check_ok (eqb (length b) (file_length (functions_in b) (segments_in b))) BadLength _ e2);
      header = check_ok (good_header b) BadHeader _ e3;
    }

-- byte 3 and the offsets of a good header
header_last : (b : List ℕ) → good_header b ≡ true → byte_in b 3 ≡ 0
unfolding good_header
header_last b h = eqb-true (byte_in b 3) 0 (and_left (eqb (byte_in b 3) 0) _ h)

header_offset : (b : List ℕ) → good_header b ≡ true → (k : ℕ) → k < functions_in b
    → word16 b (4 + 2 * k) ≡ offset_of (functions_in b) (segments_in b) (k + 1)
unfolding good_header
header_offset b h k l =
    eqb-true (word16 b (4 + 2 * k)) (offset_of (functions_in b) (segments_in b) (k + 1))
    (by_test (eqb (word16 b (4 + 2 * k)) (offset_of (functions_in b) (segments_in b) (k + 1))) (λ e. e)
    (λ e. nowhere (sym (not-true (some_below (functions_in b) wrong) (and_right (eqb (byte_in b 3) 0) _ h)) ∙ some_intro (functions_in b) wrong k l (ap not e))))
  where
    wrong : ℕ → Bool
    wrong i = not (eqb (word16 b (4 + 2 * i)) (offset_of (functions_in b) (segments_in b) (i + 1)))

-- the word of a segment is made of the marks that it says
word_said : (b : List ℕ) → Bytes b → (k r : ℕ) → k < functions_in b → r < segments_in b
    → word32 b (4 + 2 * functions_in b + 4 * segments_in b * k + 4 * r) ≡ segment_word (file_table b) (k + 1) (r + 1)
unfolding file_table
word_said b small k r h l =
    same_bits 32 (word32 b at) (segment_word (file_table b) (k + 1) (r + 1)) below (word_lt 32 marks)
    (λ j m. sym (word_set 32 marks j m ∙ mark j m))
  where
    at : ℕ
    at = 4 + 2 * functions_in b + 4 * segments_in b * k + 4 * r

    marks : ℕ → Bool
    marks i = file_table b (k + 1) (r + 1) (i + 1)

    below : word32 b at < 2 ^ 32
    below = let s0 = small at in let s1 = small (at + 1) in let s2 = small (at + 2) in let s3 = small (at + 2 + 1) in omega arith

    mark : (j : ℕ) → j < 32 → marks j ≡ is_set (word32 b at) j
    mark j m =
        let ek : k + 1 - 1 ≡ k = omega arith in
        let er : r + 1 - 1 ≡ r = omega arith in
        let ej : j + 1 - 1 ≡ j = omega arith in
        simp (
          inside_of (k + 1) (functions_in b) (omega arith) (omega arith),
          inside_of (r + 1) (segments_in b) (omega arith) (omega arith),
          inside_of (j + 1) 32 (omega arith) (omega arith),
          ek,
          er,
          ej,
        )

-- bytes that are read as a unit are the file of what they say
said_written : (b : List ℕ) → Bytes b → read_answer b ≡ Ok tt → file_of (functions_in b) (segments_in b) (columns_in b) (file_table b) ≡ b
said_written b small e =
    let a = accepted_parts b e in
    sym (file_of_lem b (functions_in b) (segments_in b) (columns_in b) (file_table b) a.size small
    (record { functions = refl; segments = refl; columns = refl; last = header_last b a.header })
    (header_offset b a.header) (word_said b small))

pub read_written : (file : List ℕ) → ReadWritten file
unfolding unit_of
read_written file small e =
    let a = accepted file e in
    ap (λ o. unit_file o.unit) a.unit
    ∙ ap (file_of (functions_in file) (segments_in file) (columns_in file)) a.table
    ∙ said_written file small e
