-- What an accepted file is read as: a sound unit of its counts with its table. Assumes nothing.
use Rattle.std.proofs.Common.{Ok}
use mathlib.Core.Path.{◌≡◌}
use mathlib.Core.Bool.{true}
use mathlib.Core.List.{List}
use Prim.Native.Nat.{ℕ, ◌≤◌}
use native.Mathlib.Omega.{arith}
use lib.ListN.{length}
use Rattle.words.proofs.Tests.{and_true}
use Rattle.unit.specs.Unit.{somewhere, good_counts, marked, sound_of}
use Rattle.unit.specs.Calls.{blank, unit_of}
use Rattle.unit.proofs.Laws.{inside_of, somewhere_of}
use Rattle.unit.proofs.SoundLaws.{Words}
use Rattle.unit.proofs.EditLaws.{outcome_answer}
use Rattle.unit.proofs.TableLaws.{unit_of_words, unit_of_table, unit_of_sound}
use Rattle.unit_file.specs.File.{file_length}
use Rattle.unit_file.specs.Read.{functions_in, segments_in, columns_in, file_table, read_answer, read_of}
use Rattle.unit_file.specs.InnerRead.{Clean}
use Rattle.unit_file.proofs.ReadLaws.{file_mark, clean_columns, accepted_clean}

pub record Accepted (file : List ℕ) : Type 0 where
  pub unit : read_of file ≡ record { answer = (Ok tt); unit = unit_of (functions_in file) (segments_in file) (columns_in file) (file_table file) }
  pub table : marked (unit_of (functions_in file) (segments_in file) (columns_in file) (file_table file)) ≡ file_table file
  pub sound : sound_of (unit_of (functions_in file) (segments_in file) (columns_in file) (file_table file)) ≡ true
  pub words : Words (unit_of (functions_in file) (segments_in file) (columns_in file) (file_table file))
  pub size : length file ≡ file_length (functions_in file) (segments_in file)

-- a mark of the file lies within its counts
mark_inside : (file : List ℕ) → Clean file → (q r k : ℕ) → file_table file q r k ≡ true
    → (somewhere q r k ≡ true) × (q ≤ functions_in file) × (r ≤ segments_in file) × (k ≤ columns_in file)
mark_inside file d q r k e =
    let m = file_mark file q r k e in
    let a = m.tag in
    let b = m.segment in
    let g = m.column in
    let n = d.whole.counts in
    (somewhere_of q r k a.least (omega arith) b.least (omega arith) g.least g.most, a.most, b.most, clean_columns file d q r k m)

counts_good : (file : List ℕ) → Clean file → good_counts (functions_in file) (segments_in file) (columns_in file) ≡ true
counts_good file d =
    let n = d.whole.counts in
    and_true (inside_of (functions_in file) 4 n.functions1 n.functions4)
    (and_true (inside_of (segments_in file) 16 n.segments1 n.segments16) (inside_of (columns_in file) 32 n.columns1 n.columns32))

pub accepted : (file : List ℕ) → read_answer file ≡ Ok tt → Accepted file
unfolding read_of
accepted file e =
    let d = accepted_clean file e in
    let f = functions_in file in
    let s = segments_in file in
    let c = columns_in file in
    record {
      unit = rw e;
      table = unit_of_table f s c (file_table file) (λ q r k m. (mark_inside file d q r k m).0);
      sound = unit_of_sound f s c (file_table file) (counts_good file d) (mark_inside file d);
      words = unit_of_words f s c (file_table file);
      size = d.whole.size;
    }

pub read_answer_lem : (file : List ℕ) → (read_of file).answer ≡ read_answer file
unfolding read_of
read_answer_lem file = outcome_answer (read_answer file) (blank 0 0 0) (unit_of (functions_in file) (segments_in file) (columns_in file) (file_table file))
