-- One event on lent registers: the four words, and what each way that it ends answers and leaves. Assumes nothing.
use Rattle.std.proofs.Common.{Ok, Err}
use Prim.Native.Nat.{ℕ, ◌≤◌, ◌<◌}
use mathlib.Core.Path.{◌≡◌, refl, sym, ap, ◌∙◌}
use mathlib.Core.List.{List, [], ◌∷◌}
use native.Mathlib.Omega.{arith}
use borrow.Author.Tests.{le-leb, lt-leb}
use lib.ListN.{length, set}
use Rattle.unit.specs.declared.FunctionUnit.{FunctionUnit}
use Rattle.unit.specs.declared.Refusal.{Refusal}
use Rattle.unit.specs.declared.Refusal.TheVariants.{ShortOutput}
use Rattle.unit.specs.Answers.{Answer}
use Rattle.unit.specs.Numbers.{number_of, number_in}
use Rattle.unit.specs.Calls.{handed}
use Rattle.unit.proofs.EndLaws.{then_first, then_second}
use Rattle.controller.specs.declared.Bank.{Bank}
use Rattle.controller.specs.declared.Event.{Event}
use Rattle.controller.specs.declared.Stepped.{Stepped}
use Rattle.controller.specs.Bank.{event_answer, moved, bank_then, step_of}
use Rattle.file_issue.specs.Issue.{bank_in, bank_over}
use Rattle.file_issue.specs.Inner.{step_refusal, step_words}

-- The four words

pub bank_stored : (b : Bank) (words : List ℕ) → 4 ≤ length words
    → set (set (set (set words 0 b.r1) 1 b.r2) 2 b.r3) 3 b.r4 ≡ bank_over b words
bank_stored b [] h = absurd (omega arith)
bank_stored b (w ∷ []) h = absurd (omega arith)
bank_stored b (w ∷ x ∷ []) h = absurd (omega arith)
bank_stored b (w ∷ x ∷ y ∷ []) h = absurd (omega arith)
bank_stored b (w ∷ x ∷ y ∷ z ∷ words) h = refl

-- the registers that stand there, stored again
bank_kept : (words : List ℕ) → 4 ≤ length words → bank_over (bank_in words) words ≡ words
bank_kept [] h = absurd (omega arith)
bank_kept (w ∷ []) h = absurd (omega arith)
bank_kept (w ∷ x ∷ []) h = absurd (omega arith)
bank_kept (w ∷ x ∷ y ∷ []) h = absurd (omega arith)
bank_kept (w ∷ x ∷ y ∷ z ∷ words) h = refl

-- what an event leaves, stored
bank_handed : (a : Answer) (new : Bank) (words : List ℕ) → 4 ≤ length words
    → bank_over (bank_then a (bank_in words) new) words ≡ handed a (bank_over new words) words
bank_handed (Ok _) new words h = refl
bank_handed (Err why) new words h = bank_kept words h

-- The ways that an event ends

abbrev pub StepEnds : Answer → FunctionUnit → Event → List ℕ → List ℕ → ℕ → Type 0
StepEnds tried u event words after r = (r ≡ number_in (step_refusal tried u words event)) × (after ≡ step_words tried u event words)

module _ (tried : Answer) (u : FunctionUnit) (event : Event) (words : List ℕ) where
  step_ends : (a : Answer) → step_refusal tried u words event ≡ a
      → StepEnds tried u event words (handed a (bank_over (moved u (bank_in words) event) words) words) (number_in a)
  unfolding step_words
  step_ends a e = (ap number_in (sym e), ap (λ x. handed x (bank_over (moved u (bank_in words) event) words) words) (sym e))

  pub step_untried : {why : Refusal} {r : ℕ} → tried ≡ Err why → r ≡ number_in tried → StepEnds tried u event words words r
  unfolding step_refusal
  step_untried {why} e n = let s = step_ends (Err why) (then_first tried _ e) in (n ∙ ap number_in e ∙ s.0, s.1)

  pub step_short : tried ≡ Ok tt → length words < 4 → StepEnds tried u event words words (number_of ShortOutput)
  unfolding step_refusal
  step_short d h = step_ends (Err ShortOutput) (then_second tried _ d ∙ rw (lt-leb 4 (length words) h))

  pub step_made : (loaded : Bank) (stepped : Stepped) (after : List ℕ) (r : ℕ) → tried ≡ Ok tt → 4 ≤ length words → loaded ≡ bank_in words
      → stepped ≡ step_of u loaded event → after ≡ bank_over stepped.bank words → r ≡ number_in stepped.answer
      → StepEnds tried u event words after r
  unfolding step_refusal step_of
  step_made loaded stepped after r d h l s k n =
      let same : stepped ≡ step_of u (bank_in words) event = s ∙ ap (λ b. step_of u b event) l in
      let e = step_ends (event_answer u (bank_in words) event) (then_second tried _ d ∙ rw (le-leb 4 (length words) h)) in (
        n ∙ ap (λ (x : Stepped). number_in x.answer) same ∙ e.0,
        k ∙ ap (λ (x : Stepped). bank_over x.bank words) same ∙ bank_handed (event_answer u (bank_in words) event) (moved u (bank_in words) event) words h ∙ e.1,
      )
