-- How a question about a unit file ends: the file is tried first, then what was asked, and a number is handed out. Assumes nothing.
use Rattle.std.proofs.Common.{Result, Ok, Err}
use Prim.Native.Nat.{ℕ}
use mathlib.Core.Path.{◌≡◌, refl, ap, ◌∙◌}
use mathlib.Core.List.{List}
use Rattle.unit.specs.declared.FunctionUnit.{FunctionUnit}
use Rattle.unit.specs.declared.Outcome.{Outcome}
use Rattle.unit.specs.declared.Refusal.{Refusal}
use Rattle.unit.specs.Answers.{Answer}
use Rattle.unit.specs.Table.{Table}
use Rattle.unit.specs.Unit.{marked}
use Rattle.unit.specs.Calls.{and_then}
use Rattle.unit.proofs.EndLaws.{Ends}
use Rattle.unit_file.specs.Read.{read_of, unit_in, table_in, file_then}
use Rattle.unit_file.proofs.AcceptedLaws.{read_answer_lem}
use Rattle.collision.specs.Answers.{answering}
use Rattle.file_answers.specs.Answers.{read_then, number_told, number_value}

-- what was asked of a file's unit, as numbers
abbrev pub NumberEnds : Answer → Result ℕ Refusal → ℕ → ℕ → ℕ → Type 0
NumberEnds read asked old number last = (number ≡ number_told (read_then read asked)) × (last ≡ number_value (read_then read asked) old)

-- a number that was asked for
number_ends : {n : Result ℕ Refusal} {number last : ℕ} (a : Answer) (value old : ℕ) → n ≡ answering a value
    → (number ≡ number_told n) × (last ≡ number_value n old) → Ends a value old number last
number_ends a value old e h = (h.0 ∙ ap number_told e ∙ (go a).0, h.1 ∙ ap (λ m. number_value m old) e ∙ (go a).1)
  where
    go : (a : Answer) → Ends a value old (number_told (answering a value)) (number_value (answering a value) old)
    go (Ok _) = (refl, refl)
    go (Err why) = (refl, refl)

-- the file's refusal, then that of what was asked
read_then_lem : (a b : Answer) (value : ℕ) → read_then a (answering b value) ≡ answering (and_then a b) value
read_then_lem (Ok _) b value = refl
read_then_lem (Err why) b value = refl

-- a number that was asked of the unit that was read
pub number_handed : {n : Result ℕ Refusal} {number last : ℕ} (file : List ℕ) (back : Outcome) → back ≡ read_of file → (next : FunctionUnit → Answer) (value : Table → ℕ) (old : ℕ)
    → n ≡ answering (next back.unit) (value (marked back.unit)) → NumberEnds back.answer n old number last
    → Ends (file_then file (next (unit_in file))) (value (table_in file)) old number last
number_handed file back read next value old says h =
    let asked = ap (read_then back.answer) says ∙ read_then_lem back.answer (next back.unit) (value (marked back.unit)) in
    let same : answering (and_then back.answer (next back.unit)) (value (marked back.unit)) ≡ answering (file_then file (next (unit_in file))) (value (table_in file))
    = rw (read, read_answer_lem file) in
    number_ends (file_then file (next (unit_in file))) (value (table_in file)) old (asked ∙ same) h
