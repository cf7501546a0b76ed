-- How a call ends: one answer after another, and what is handed out, which goes by the answer. Assumes nothing.
use Rattle.std.proofs.Common.{Ok, Err}
use Prim.Native.Nat.{ℕ}
use mathlib.Core.Path.{◌≡◌, refl, sym, ap, ◌∙◌}
use Rattle.unit.specs.declared.Refusal.{Refusal}
use Rattle.unit.specs.Answers.{Answer}
use Rattle.unit.specs.Numbers.{number_of, number_in}
use Rattle.unit.specs.Calls.{and_then, handed}
use Rattle.unit.proofs.Laws.{never_done}

-- One answer after another

pub then_first : {why : Refusal} (a b : Answer) → a ≡ Err why → and_then a b ≡ Err why
then_first a b e = ap (λ x. and_then x b) e

pub then_second : (a b : Answer) → a ≡ Ok tt → and_then a b ≡ b
then_second a b e = ap (λ x. and_then x b) e

pub then_both : (a b : Answer) → and_then a b ≡ Ok tt → (a ≡ Ok tt) × (b ≡ Ok tt)
then_both (Ok _) b e = (refl, e)
then_both (Err why) b e = never_done e

-- where every refusal leaves the same, the one that goes first does not matter
pub then_kept : {A : Type 0} (left : Answer → A) (a b : Answer) (last : Refusal) → ((v w : Refusal) → left (Err v) ≡ left (Err w))
    → ((why : Refusal) → a ≡ Err why → b ≡ Err last) → left b ≡ left (and_then a b)
then_kept left (Ok _) b last same e = refl
then_kept left (Err why) b last same e = ap left (e why refl) ∙ same last why

-- What an answer hands out

-- the call tells the number of `a`, and leaves what `a` hands out
abbrev pub Ends : {A : Type 0} → Answer → A → A → ℕ → A → Type 0
Ends a new old number last = (number ≡ number_in a) × (last ≡ handed a new old)

ends_refused : {A : Type 0} {a : Answer} {why : Refusal} (new old : A) → a ≡ Err why → Ends a new old (number_of why) old
ends_refused new old e = (ap number_in (sym e), ap (λ b. handed b new old) (sym e))

pub ends_done : {A : Type 0} {a : Answer} (new old : A) → a ≡ Ok tt → Ends a new old 0 new
ends_done new old e = (ap number_in (sym e), ap (λ b. handed b new old) (sym e))

-- the number of a refusal that is passed on
pub ends_number : {A : Type 0} {a : Answer} {why : Refusal} {number : ℕ} (from : Answer) (new old : A) → a ≡ Err why → from ≡ Err why
    → number ≡ number_in from → Ends a new old number old
ends_number from new old e f c = let r = ends_refused new old e in (c ∙ ap number_in f ∙ r.0, r.1)

-- the same answer, with the same to hand out
pub ends_same : {A : Type 0} {a b : Answer} {number : ℕ} {last : A} (new left old : A) → a ≡ b → (b ≡ Ok tt → new ≡ left) → Ends b new old number last
    → Ends a left old number last
ends_same {b = b} new left old e f ends = (ends.0 ∙ ap number_in (sym e), ends.1 ∙ go b refl ∙ ap (λ d. handed d left old) (sym e))
  where
    go : (d : Answer) → b ≡ d → handed d new old ≡ handed d left old
    go (Ok _) h = f h
    go (Err why) h = refl
