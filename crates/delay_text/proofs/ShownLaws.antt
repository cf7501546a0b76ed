-- How showing and writing the unit with delays end. Assumes nothing.
use Rattle.std.proofs.Common.{Result, Ok, Err}
use mathlib.Core.Path.{◌≡◌, refl, sym, ap, ◌∙◌}
use mathlib.Core.List.{List}
use Prim.Native.Nat.{ℕ}
use lib.ListN.{length}
use Rattle.unit.specs.declared.FunctionUnit.{FunctionUnit}
use Rattle.unit.specs.declared.Outcome.{Outcome}
use Rattle.unit.specs.declared.Refusal.{Refusal}
use Rattle.unit.specs.Answers.{Answer}
use Rattle.unit.specs.Calls.{unit_of, and_then, outcome}
use Rattle.unit_file.specs.File.{file_length}
use Rattle.unit_file.specs.Write.{unit_file, write_refusal, length_answer, file_in_front, write_answer, write_out}
use Rattle.diagram.specs.Answers.{written}
use Rattle.drawing.specs.Answers.{drawn, unit_table, table_refusal, table_answer, table_out}
use Rattle.delays.specs.Delays.{delays_answer, delayed_unit, delays_of}
use Rattle.delay_text.specs.Shown.{delayed_table_refusal, delayed_table_answer, delayed_table_out, delayed_file_refusal, delayed_file_answer, delayed_file_out}

module _ (u : FunctionUnit) (q m : ℕ) where
  abbrev TableEnds : List ℕ → List ℕ → Result ℕ Refusal → Type 0
  TableEnds before after r = (r ≡ delayed_table_answer u q m (length before)) × (after ≡ delayed_table_out u q m before)

  abbrev FileEnds : List ℕ → List ℕ → Result ℕ Refusal → Type 0
  FileEnds before after r = (r ≡ delayed_file_answer u q m (length before)) × (after ≡ delayed_file_out u q m before)

  -- by what the call makes
  module _ (made : Outcome) (e : made ≡ delays_of u q m) where
    says : made.answer ≡ delays_answer u q m
    unfolding delays_of
    says = ap (λ (o : Outcome). o.answer) e ∙ go (delays_answer u q m)
      where
        go : (a : Answer) → (outcome a u (delayed_unit u q m)).answer ≡ a
        go (Ok _) = refl
        go (Err why) = refl

    makes : made.answer ≡ Ok tt → made.unit ≡ delayed_unit u q m
    unfolding delays_of
    makes d = ap (λ (o : Outcome). o.unit) e ∙ ap (λ (a : Answer). (outcome a u (delayed_unit u q m)).unit) (sym says ∙ d)

    -- what comes after the call is tried where it is done, and not where it is refused
    ends : {A : Type 0} (answer : Answer → A) (out : Answer → List ℕ) (next a : Answer) → made.answer ≡ a
        → (answer (and_then a next) ≡ answer (and_then (delays_answer u q m) next)) × (out (and_then a next) ≡ out (and_then (delays_answer u q m) next))
    ends answer out next a d =
        let by : and_then a next ≡ and_then (delays_answer u q m) next = ap (λ (b : Answer). and_then b next) (sym d ∙ says) in
        (ap answer by, ap out by)

    -- the table

    table_ends : (before : List ℕ) (a : Answer) → made.answer ≡ a → let all : Answer = and_then a (table_refusal (delayed_unit u q m) 1 (length before)) in
        TableEnds before (written all (unit_table (delayed_unit u q m) 1) before) (drawn all (unit_table (delayed_unit u q m) 1))
    unfolding delayed_table_answer delayed_table_out delayed_table_refusal
    table_ends before a d =
        ends (λ (b : Answer). drawn b (unit_table (delayed_unit u q m) 1)) (λ (b : Answer). written b (unit_table (delayed_unit u q m) 1) before) _ a d

    pub table_refused : (before : List ℕ) (why : Refusal) → made.answer ≡ Err why → TableEnds before before (Err why)
    table_refused before why d = table_ends before (Err why) d

    pub table_drawn : (before after : List ℕ) (r : Result ℕ Refusal) → made.answer ≡ Ok tt
        → (r ≡ table_answer made.unit 1 (length before)) × (after ≡ table_out made.unit 1 before) → TableEnds before after r
    unfolding table_answer table_out
    table_drawn before after r d w =
        let k = table_ends before (Ok tt) d in (
          w.0 ∙ ap (λ (v : FunctionUnit). table_answer v 1 (length before)) (makes d) ∙ k.0,
          w.1 ∙ ap (λ (v : FunctionUnit). table_out v 1 before) (makes d) ∙ k.1,
        )

    -- the file

    file_ends : (before : List ℕ) (a : Answer) → made.answer ≡ a → let all : Answer = and_then a (write_refusal (delayed_unit u q m) (length before)) in
        FileEnds before (file_in_front all (unit_file (delayed_unit u q m)) before) (length_answer all (file_length 1 u.segments))
    unfolding delayed_file_answer delayed_file_out delayed_file_refusal
    file_ends before a d =
        ends (λ (b : Answer). length_answer b (file_length 1 u.segments)) (λ (b : Answer). file_in_front b (unit_file (delayed_unit u q m)) before) _ a d

    pub file_refused : (before : List ℕ) (why : Refusal) → made.answer ≡ Err why → FileEnds before before (Err why)
    file_refused before why d = file_ends before (Err why) d

    pub file_written : (before after : List ℕ) (r : Result ℕ Refusal) → made.answer ≡ Ok tt
        → (r ≡ write_answer made.unit (length before)) × (after ≡ write_out made.unit before) → FileEnds before after r
    unfolding write_answer write_out unit_of
    file_written before after r d w =
        let k = file_ends before (Ok tt) d in (
          w.0 ∙ ap (λ (v : FunctionUnit). write_answer v (length before)) (makes d) ∙ k.0,
          w.1 ∙ ap (λ (v : FunctionUnit). write_out v before) (makes d) ∙ k.1,
        )
