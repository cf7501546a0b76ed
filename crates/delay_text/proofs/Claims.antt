-- Where there is room, only 1, 2, 19, 20 and 21 refuse, and the file that is written is read as the unit with delays. Assumes nothing.
use Rattle.std.proofs.Common.{Ok, Err}
use mathlib.Core.Path.{◌≡◌, refl, sym, ap, ◌∙◌}
use mathlib.Core.Bool.{true}
use mathlib.Core.List.{List}
use Prim.Native.Nat.{ℕ, ◌≤◌}
use native.Mathlib.Omega.{arith}
use borrow.Author.Tests.{le-leb}
use lib.ListN.{length, take, drop}
use lib.Seq.{take_at}
use Rattle.unit.specs.declared.FunctionUnit.{FunctionUnit}
use Rattle.unit.specs.declared.Outcome.{Outcome}
use Rattle.unit.specs.Answers.{Answer}
use Rattle.unit.specs.Unit.{marked, sound_of}
use Rattle.unit.specs.Calls.{and_then, tag_answer, unit_of, outcome}
use Rattle.unit.proofs.Laws.{within, sound_has}
use Rattle.unit.proofs.TableLaws.{unit_of_words, unit_of_same}
use Rattle.unit_file.specs.File.{file_length}
use Rattle.unit_file.specs.Read.{read_of}
use Rattle.unit_file.specs.Write.{unit_file, write_refusal}
use Rattle.unit_file.proofs.FileLaws.{file_length_lem}
use Rattle.unit_file.proofs.RoundTrips.{unit_read}
use Rattle.drawing.specs.Answers.{unit_table, table_refusal}
use Rattle.drawing.proofs.AnswerLaws.{table_suffices}
use Rattle.delays.specs.Delays.{delays_answer, delayed_unit, delays_of}
use Rattle.delays.proofs.Claims.{delays_permit}
use Rattle.delay_text.specs.Shown.{delayed_table_refusal, delayed_file_refusal, delayed_file_out}
use Rattle.delay_text.specs.Claims.{TableFits, FileFits, SavedRead}

-- tests that pass where others did leave those
only_these : (a next : Answer) → (a ≡ Ok tt → next ≡ Ok tt) → and_then a next ≡ a
only_these (Ok _) next e = e refl
only_these (Err why) next e = refl

module _ (u : FunctionUnit) (q m : ℕ) (d : delays_answer u q m ≡ Ok tt) where
  abbrev v : FunctionUnit
  v = delayed_unit u q m

  pub made : delays_of u q m ≡ record { answer = (Ok tt); unit = v }
  unfolding delays_of
  made = ap (λ (a : Answer). outcome a u v) d

  unit_is : (delays_of u q m).unit ≡ v
  unit_is = ap (λ (o : Outcome). o.unit) made

  sound : sound_of v ≡ true
  sound = ap sound_of (sym unit_is) ∙ (delays_permit u q m d).sound

  tag : tag_answer v 1 ≡ Ok tt
  unfolding tag_answer unit_of
  tag = rw sound

  table_taken : (room : ℕ) → 1700 ≤ room → table_refusal v 1 room ≡ Ok tt
  unfolding table_refusal
  table_taken room h = rw (tag, le-leb (length (unit_table v 1)) room (omega (arith, table_suffices v 1 tag)))

  short : file_length 1 u.segments ≤ 70
  unfolding unit_of
  short = omega (arith, (within u.segments 16 (sound_has v sound).segments).most)

  file_taken : (room : ℕ) → 70 ≤ room → write_refusal v room ≡ Ok tt
  unfolding write_refusal unit_of
  file_taken room h = rw (sound, le-leb (file_length 1 u.segments) room (omega (arith, short)))

  -- the file, read
  back : read_of (unit_file v) ≡ delays_of u q m
  back =
      let same = unit_of_same v (marked v) (unit_of_words 1 u.segments _ _) (ap (λ (w : FunctionUnit). w.plan) (sym unit_is) ∙ (delays_permit u q m d).plan) refl in
      unit_read v sound ∙ ap (λ (w : FunctionUnit). record { answer = (Ok tt); unit = w }) (sym same) ∙ sym made

  -- its length
  size : length (unit_file v) ≡ file_length 1 u.segments
  unfolding unit_of
  size = file_length_lem 1 u.segments v.columns (marked v)

  front : (bytes : List ℕ) → 70 ≤ length bytes → take (file_length 1 u.segments) (delayed_file_out u q m bytes) ≡ unit_file v
  unfolding delayed_file_out delayed_file_refusal
  front bytes h =
      rw (d, file_taken (length bytes) h) (take_at (unit_file v) (drop (length (unit_file v)) bytes) (file_length 1 u.segments) size)

pub table_fits : TableFits
unfolding delayed_table_refusal
table_fits u q m room h = only_these (delays_answer u q m) _ (λ d. table_taken u q m d room h)

pub file_fits : FileFits
unfolding delayed_file_refusal
file_fits u q m room h = only_these (delays_answer u q m) _ (λ d. file_taken u q m d room h)

pub saved_read : SavedRead
saved_read u q m bytes h d = ap read_of (front u q m d bytes h) ∙ back u q m d
