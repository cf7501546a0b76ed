-- The listing of a file is that of its unit, or one line. Assumes nothing.
use Rattle.std.proofs.Common.{Result, Ok, Err}
use Prim.Native.Nat.{ℕ, ◌+◌, ◌^◌, ◌≤◌, ◌<◌}
use mathlib.Core.Path.{◌≡◌, sym, ap, ◌∙◌, subst}
use mathlib.Core.List.{List, [], ◌++◌}
use native.Mathlib.Omega.{arith}
use lib.ListN.{length, length-append}
use Rattle.text.specs.Text.{ascii, decimal}
use Rattle.text.proofs.DecimalLaws.{decimal_length}
use Rattle.unit.specs.declared.Refusal.{Refusal}
use Rattle.unit.specs.declared.Outcome.{Outcome}
use Rattle.unit.specs.Numbers.{number_of}
use Rattle.unit.specs.Table.{Table}
use Rattle.unit.specs.Calls.{unit_of}
use Rattle.unit.proofs.Laws.{never_done}
use Rattle.unit.proofs.NumberLaws.{numbered}
use Rattle.unit_file.specs.Read.{functions_in, segments_in, columns_in, file_table, read_answer, read_of}
use Rattle.unit_file.proofs.AcceptedLaws.{Accepted, accepted, read_answer_lem}
use Rattle.listing.specs.Lines.{newline, refused_line, unit_text}
use Rattle.listing.specs.Listing.{room_answer, Printed, Bests, unit_refusal, UnitListed, FileListed}

-- A refused file

refused_short : (why : Refusal) → length (refused_line why) ≤ 8888
refused_short why =
    let d : length (decimal (number_of why)) ≤ 2 = decimal_length (number_of why) 2 (omega arith) (omega (arith, (numbered why).to)) in
    rw (length-append (ascii "refused " ++ decimal (number_of why)) newline, length-append (ascii "refused ") (decimal (number_of why))) (omega arith)

-- what was read says the file's answer
said : (file : List ℕ) {o : Outcome} → o ≡ read_of file → read_answer file ≡ o.answer
said file r = sym (read_answer_lem file) ∙ sym (ap (λ o. o.answer) r)

pub file_refused : {file : List ℕ} {o : Outcome} {why : Refusal} {before after : List ℕ} {answer : (Result ℕ Refusal)} → o ≡ read_of file → o.answer ≡ Err why
    → Printed (room_answer (refused_line why) (length before)) (refused_line why) before after answer → FileListed file before after answer
file_refused {file} {why = why} r q p =
    let e = said file r ∙ q in
    record {
      best = λ q. [];
      bests = λ d. never_done (sym e ∙ d);
      suffices = rw e (refused_short why);
      printed = rw e p;
    }

-- An accepted file

unit_listed : (file : List ℕ) {before after : List ℕ} {answer : (Result ℕ Refusal)} → read_answer file ≡ Ok tt → Accepted file
    → UnitListed (unit_of (functions_in file) (segments_in file) (columns_in file) (file_table file)) before after answer → FileListed file before after answer
unfolding unit_of unit_refusal
unit_listed file {before} {after} {answer} e a l =
    let f = functions_in file in
    let text : Table → List ℕ = λ T. unit_text T f l.best in
    record {
      best = l.best;
      bests = λ d. subst (λ (T : Table). Bests T f l.best) a.table (l.bests a.sound);
      suffices = rw e (subst (λ (T : Table). length (text T) ≤ 8888) a.table (l.suffices a.sound));
      printed =
          rw e (subst (λ (T : Table). Printed (room_answer (text T) (length before)) (text T) before after answer) a.table
          (rw a.sound at l.printed));
    }

pub file_accepted : {file : List ℕ} {o : Outcome} {before after : List ℕ} {answer : (Result ℕ Refusal)} → o ≡ read_of file → o.answer ≡ Ok tt
    → UnitListed o.unit before after answer → FileListed file before after answer
file_accepted {file} {before = before} {after} {answer} r q listed =
    let e = said file r ∙ q in
    let a = accepted file e in
    unit_listed file e a (subst (λ (o : Outcome). UnitListed o.unit before after answer) (r ∙ a.unit) listed)
