-- What a call leaves that writes a unit: an edited unit's file takes the whole of the file that was read, and a fresh unit is refused for its
-- counts alone. Assumes nothing.
use Rattle.std.proofs.Common.{Result, Ok, Err}
use Prim.Native.Nat.{ℕ}
use mathlib.Core.Path.{◌≡◌, refl, sym, ap, ap₂, subst, ◌∙◌}
use mathlib.Core.Bool.{Bool, true, false}
use mathlib.Core.List.{List, ◌++◌, append-nil}
use native.Mathlib.Omega.{arith}
use borrow.Author.Tests.{le-leb}
use lib.Dec.{leb}
use lib.ListN.{length, drop}
use lib.Seq.{drop-length}
use Rattle.words.specs.Bytes.{narrow}
use Rattle.words.proofs.Tests.{and_true, same_test}
use Rattle.unit.specs.declared.FunctionUnit.{FunctionUnit}
use Rattle.unit.specs.declared.Outcome.{Outcome}
use Rattle.unit.specs.declared.Refusal.{Refusal}
use Rattle.unit.specs.declared.Refusal.TheVariants.{NotSound, ShortOutput}
use Rattle.unit.specs.Answers.{Answer}
use Rattle.unit.specs.Numbers.{number_of, number_in}
use Rattle.unit.specs.Unit.{marked, good_counts, sound_of}
use Rattle.unit.specs.Calls.{check, and_then, handed, spot_answer, blank, unit_of, fresh_of, mark_of, unmark_of}
use Rattle.unit.proofs.Laws.{sound_has}
use Rattle.unit.proofs.EndLaws.{Ends, ends_same, then_both}
use Rattle.unit.proofs.SoundLaws.{Words}
use Rattle.unit.proofs.EditLaws.{Edited, mark_answer, unmark_answer, mark_accepted, unmark_accepted, blank_table, fresh_sound}
use Rattle.unit_file.specs.File.{file_length, file_of}
use Rattle.unit_file.specs.Read.{read_of, unit_in}
use Rattle.unit_file.specs.Write.{unit_file, write_refusal, length_answer, write_answer, file_in_front, write_out}
use Rattle.unit_file.proofs.FileLaws.{file_length_lem}
use Rattle.unit_file.proofs.AcceptedLaws.{accepted}
use Rattle.unit_file.proofs.AskedLaws.{read_gives}
use Rattle.file_edits.specs.Edits.{fresh_refusal, fresh_file, edit_refusal}

-- Edits

-- a sound unit's file over bytes of its length
written_whole : (u : FunctionUnit) (bytes : List ℕ) → sound_of u ≡ true → length bytes ≡ file_length u.functions u.segments
    → write_out u bytes ≡ unit_file u
unfolding write_out write_refusal
written_whole u bytes sound size =
    let room = le-leb (file_length u.functions u.segments) (length bytes) (omega arith) in
    let same : length (unit_file u) ≡ length bytes = file_length_lem u.functions u.segments u.columns (marked u) ∙ sym size in
    rw (sound, room) (ap (λ k. unit_file u ++ drop k bytes) same ∙ ap (λ l. unit_file u ++ l) (drop-length bytes) ∙ append-nil (unit_file u))

-- an edit tries its place, and leaves a sound unit of the same counts
pub record Edit (edit : FunctionUnit → ℕ → ℕ → ℕ → Outcome) (b : Bool) : Type 0 where
  pub answer : (u : FunctionUnit) (q s c : ℕ) → (edit u q s c).answer ≡ spot_answer u q s c
  pub accepted : (u : FunctionUnit) (q s c : ℕ) → Words u → spot_answer u q s c ≡ Ok tt → Edited u (edit u q s c).unit q s c b

pub marks : Edit mark_of true
marks = record { answer = mark_answer; accepted = mark_accepted }

pub clears : Edit unmark_of false
clears = record { answer = unmark_answer; accepted = unmark_accepted }

-- the unit in a file, edited
abbrev edited_in : (FunctionUnit → ℕ → ℕ → ℕ → Outcome) → List ℕ → ℕ → ℕ → ℕ → Outcome
edited_in edit file q s c = edit (unit_in file) (narrow q) (narrow s) (narrow c)

-- the file was read, the numbers narrowed, and its unit edited
module _ {edit : FunctionUnit → ℕ → ℕ → ℕ → Outcome} {b : Bool} (d : Edit edit b) (file : List ℕ) (q s c : ℕ) {back made : Outcome} {x y z : ℕ}
    (read : back ≡ read_of file) (tag : x ≡ narrow q) (segment : y ≡ narrow s) (column : z ≡ narrow c)
    (edited : made ≡ edit back.unit x y z) where
  made_new : made ≡ edited_in edit file q s c
  made_new = edited ∙ rw (read, tag, segment, column)

  spot : spot_answer (unit_in file) (narrow q) (narrow s) (narrow c) ≡ made.answer
  spot = sym (d.answer (unit_in file) (narrow q) (narrow s) (narrow c)) ∙ ap (λ o. o.answer) (sym made_new)

  refusal : edit_refusal file q s c ≡ and_then back.answer made.answer
  unfolding edit_refusal
  refusal = ap₂ and_then (read_gives file back read refl) spot

  -- the file's length goes by the counts, which the edit leaves
  edit_whole : back.answer ≡ Ok tt → made.answer ≡ Ok tt → write_out (edited_in edit file q s c).unit file ≡ unit_file (edited_in edit file q s c).unit
  unfolding unit_of
  edit_whole whole e =
      let a = accepted file (read_gives file back read whole) in
      let words = subst Words (ap (λ o. o.unit) (sym a.unit)) a.words in
      let m = d.accepted (unit_in file) (narrow q) (narrow s) (narrow c) words (spot ∙ e) in
      written_whole (edited_in edit file q s c).unit file m.sound
      (a.size
      ∙ ap₂ file_length
      (ap (λ o. o.unit.functions) (sym a.unit) ∙ sym m.functions)
      (ap (λ o. o.unit.segments) (sym a.unit) ∙ sym m.segments))

  pub edit_ends : {number : ℕ} {out : List ℕ} → Ends (and_then back.answer made.answer) (write_out made.unit file) file number out
      → Ends (edit_refusal file q s c) (unit_file (edited_in edit file q s c).unit) file number out
  edit_ends ends =
      ends_same (write_out made.unit file) (unit_file (edited_in edit file q s c).unit) file refusal
      (λ e. let b = then_both back.answer made.answer e in ap (λ o. write_out o.unit file) made_new ∙ edit_whole b.0 b.1) ends

-- A fresh unit

blank_sound : (f s c : ℕ) → sound_of (blank f s c) ≡ good_counts f s c
blank_sound f s c =
    same_test (sound_of (blank f s c)) (good_counts f s c)
    (λ e. let d = sound_has (blank f s c) e in and_true d.functions (and_true d.segments d.columns))
    (fresh_sound f s c)

-- the length that a writing answers, or why it was refused
length_given : (a : Answer) (size n old : ℕ) → length_answer a size ≡ Ok n → Ends a size old 0 n
length_given (Ok _) size n old e = (refl, cc)
length_given (Err why) size n old e = let z : ◌≡◌ {A = ℕ} 0 1 = cc in absurd (omega arith)

length_refused : {why : Refusal} (a : Answer) (size old : ℕ) → length_answer a size ≡ Err why → Ends a size old (number_of why) old
length_refused (Ok _) size old e = let z : ◌≡◌ {A = ℕ} 0 1 = cc in absurd (omega arith)
length_refused (Err why) size old e = (cc, refl)

-- what a call for a fresh unit answers, and what it leaves in the lent bytes and as their length
abbrev FreshEnds : ℕ → ℕ → ℕ → List ℕ → ℕ → ℕ → List ℕ → ℕ → Type 0
FreshEnds f s c bytes old number out last =
    (number ≡ number_in (fresh_refusal f s c (length bytes)))
    × ((out ≡ file_in_front (fresh_refusal f s c (length bytes)) (fresh_file f s c) bytes)
    × (last ≡ handed (fresh_refusal f s c (length bytes)) (file_length (narrow f) (narrow s)) old))

-- the numbers were narrowed, and the unit of these counts was made and written
module _ (f s c : ℕ) (bytes : List ℕ) (old : ℕ) {made : Outcome} {written : (Result ℕ Refusal)} {out : List ℕ} {x y z : ℕ} (functions : x ≡ narrow f)
    (segments : y ≡ narrow s) (columns : z ≡ narrow c) (fresh : made ≡ fresh_of x y z) (answered : written ≡ write_answer made.unit (length bytes))
    (left : out ≡ write_out made.unit bytes) where
  made_blank : made.unit ≡ blank (narrow f) (narrow s) (narrow c)
  unfolding fresh_of
  made_blank = ap (λ o. o.unit) fresh ∙ rw (functions, segments, columns)

  blank_refusal : write_refusal (blank (narrow f) (narrow s) (narrow c)) (length bytes) ≡ fresh_refusal f s c (length bytes)
  unfolding write_refusal fresh_refusal
  blank_refusal =
      ap (λ t. check t NotSound (check (leb (file_length (narrow f) (narrow s)) (length bytes)) ShortOutput (Ok tt))) (blank_sound (narrow f) (narrow s) (narrow c))

  says : written ≡ length_answer (fresh_refusal f s c (length bytes)) (file_length (narrow f) (narrow s))
  unfolding write_answer
  says = answered ∙ ap (λ u. write_answer u (length bytes)) made_blank ∙ ap (λ a. length_answer a (file_length (narrow f) (narrow s))) blank_refusal

  leaves : out ≡ file_in_front (fresh_refusal f s c (length bytes)) (fresh_file f s c) bytes
  unfolding write_out
  leaves =
      left ∙ ap (λ u. write_out u bytes) made_blank
      ∙ ap₂ (λ a T. file_in_front a (file_of (narrow f) (narrow s) (narrow c) T) bytes) blank_refusal (blank_table (narrow f) (narrow s) (narrow c))

  pub fresh_written : {n : ℕ} → written ≡ Ok n → FreshEnds f s c bytes old 0 out n
  fresh_written e = let r = length_given (fresh_refusal f s c (length bytes)) (file_length (narrow f) (narrow s)) _ old (sym says ∙ e) in (r.0, (leaves, r.1))

  pub fresh_refused : {why : Refusal} {number : ℕ} → written ≡ Err why → number ≡ number_of why → FreshEnds f s c bytes old number out old
  fresh_refused e h = let r = length_refused (fresh_refusal f s c (length bytes)) (file_length (narrow f) (narrow s)) old (sym says ∙ e) in (h ∙ r.0, (leaves, r.1))
