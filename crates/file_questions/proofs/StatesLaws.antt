-- The states of a function of a unit file: the answer, the words and the count. Assumes nothing.
use Rattle.std.proofs.Common.{Result, Err}
use Prim.Native.Nat.{ℕ}
use mathlib.Core.Path.{◌≡◌, refl, ap, ap₂, ◌∙◌}
use mathlib.Core.List.{List}
use lib.ListN.{length}
use Rattle.words.specs.Bytes.{narrow}
use Rattle.unit.specs.declared.Outcome.{Outcome}
use Rattle.unit.specs.declared.Refusal.{Refusal}
use Rattle.unit.specs.declared.Refusal.TheVariants.{NotSound}
use Rattle.unit.specs.Numbers.{number_in}
use Rattle.unit.specs.Calls.{handed}
use Rattle.unit.proofs.EndLaws.{then_kept}
use Rattle.unit_file.specs.Read.{read_answer, read_of, unit_in, table_in}
use Rattle.unit_file.proofs.AskedLaws.{unit_unread}
use Rattle.diagram.specs.Answers.{states_of, states_refusal, states_answer, states_out, written}
use Rattle.file_answers.proofs.HandedLaws.{NumberEnds, number_handed}
use Rattle.file_questions.specs.Questions.{list_refusal}

abbrev pub ListEnds : List ℕ → ℕ → List ℕ → List ℕ → ℕ → ℕ → ℕ → Type 0
ListEnds file q out outAfter count countAfter r =
    (r ≡ number_in (list_refusal file q (length out)))
    × ((outAfter ≡ written (list_refusal file q (length out)) (states_of 1 (table_in file) (narrow q)) out)
    × (countAfter ≡ handed (list_refusal file q (length out)) (length (states_of 1 (table_in file) (narrow q))) count))

-- a refused file's unit is refused
list_unread : (file : List ℕ) (q room : ℕ) (why : Refusal) → read_answer file ≡ Err why → states_refusal (unit_in file) q room ≡ Err NotSound
unfolding states_refusal
list_unread file q room why e = rw (unit_unread file q why e)

pub list_handed : (file : List ℕ) (q : ℕ) (out : List ℕ) (count : ℕ) (back : Outcome) (t : ℕ) (listed : Result ℕ Refusal) (after : List ℕ) (countAfter r : ℕ) → back ≡ read_of file
    → t ≡ narrow q → (listed ≡ states_answer back.unit t (length out)) × (after ≡ states_out back.unit t out)
    → NumberEnds back.answer listed count r countAfter → ListEnds file q out after count countAfter r
unfolding list_refusal states_answer states_out
list_handed file q out count back t listed after countAfter r read tag h ends =
    let n =
    number_handed file back read (λ u. states_refusal u (narrow q) (length out)) (λ T. length (states_of 1 T (narrow q))) count
    (h.0 ∙ ap (λ s. states_answer back.unit s (length out)) tag) ends in (
      n.0,
      (
        h.1 ∙ ap₂ (λ (o : Outcome) s. states_out o.unit s out) read tag
            ∙ then_kept (λ a. written a (states_of 1 (table_in file) (narrow q)) out) (read_answer file) (states_refusal (unit_in file) (narrow q) (length out)) NotSound
            (λ v w. refl) (list_unread file (narrow q) (length out)),
        n.1,
      ),
    )
