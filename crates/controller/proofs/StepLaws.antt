-- What an event answers and leaves, case by case. Assumes nothing.
use Rattle.std.proofs.Common.{Ok, Err}
use Prim.Native.Nat.{ℕ, ◌%◌}
use mathlib.Core.Path.{◌≡◌, ap, ◌∙◌, sym}
use mathlib.Core.Bool.{Bool, true, false}
use native.Mathlib.Omega.{arith}
use borrow.Author.Tests.{eq-eqb, ne_eqb}
use Rattle.unit.specs.declared.FunctionUnit.{FunctionUnit}
use Rattle.unit.specs.declared.Tag.{Tag}
use Rattle.unit.specs.declared.Refusal.{Refusal}
use Rattle.unit.specs.declared.Refusal.TheVariants.{NotSound, NoSuchTag, NotGranted}
use Rattle.unit.specs.Answers.{Answer}
use Rattle.unit.specs.Unit.{inside, sound_of}
use Rattle.unit.specs.Calls.{check, tag_answer}
use Rattle.unit.proofs.Laws.{never_done, check_ok, check_next, tag_accepted}
use Rattle.controller.specs.declared.Bank.{Bank}
use Rattle.controller.specs.declared.Event.{Event}
use Rattle.controller.specs.declared.Event.TheVariants.{Start}
use Rattle.controller.specs.declared.Stepped.{Stepped}
use Rattle.controller.specs.Bank.{register, granted, event_answer, moved, bank_then, step_of}

-- the bank that an event leaves, given its answer

pub step_refused : (u : FunctionUnit) (b : Bank) (e : Event) {why : Refusal} → event_answer u b e ≡ Err why
    → record { answer = Err why; bank = b } ≡ step_of u b e
unfolding step_of
step_refused u b e a = ap (λ (x : Answer). record { answer = x; bank = bank_then x b (moved u b e) }) (sym a)

pub step_done : (u : FunctionUnit) (b : Bank) (e : Event) → event_answer u b e ≡ Ok tt
    → record { answer = (Ok tt); bank = moved u b e } ≡ step_of u b e
unfolding step_of
step_done u b e a = ap (λ (x : Answer). record { answer = x; bank = bank_then x b (moved u b e) }) (sym a)

-- an answer and a bank, each as it should be
pub step_both : (u : FunctionUnit) (b : Bank) (e : Event) (s : Stepped) → s.answer ≡ event_answer u b e → s.bank ≡ (step_of u b e).bank
    → s ≡ step_of u b e
unfolding step_of
step_both u b e s p q = λ i. record { answer = p i; bank = q i }

-- a start tries the unit and the tag first, as every question does

pub start_refused : (u : FunctionUnit) (b : Bank) (q : Tag) (why : Refusal) → tag_answer u q.0 ≡ Err why
    → event_answer u b (Start q) ≡ Err why
unfolding tag_answer event_answer
start_refused u b q why e = go (sound_of u) (inside q.0 u.functions) e
  where
    go : (s i : Bool) → check s NotSound (check i NoSuchTag (Ok tt)) ≡ Err why
        → check s NotSound (check i NoSuchTag (check (granted b q.0) NotGranted (Ok tt))) ≡ Err why
    go true true e = never_done (sym e)
    go true false e = e
    go false i e = e

pub start_tried : (u : FunctionUnit) (b : Bank) (q : Tag) → tag_answer u q.0 ≡ Ok tt
    → event_answer u b (Start q) ≡ check (granted b q.0) NotGranted (Ok tt)
unfolding event_answer
start_tried u b q e = let a = tag_accepted u q.0 e in simp (a.sound, a.tag)

-- then the lowest bit of the register

pub start_held : (u : FunctionUnit) (b : Bank) (q : Tag) {x : ℕ} → tag_answer u q.0 ≡ Ok tt → x ≡ register b q.0 → x % 2 ≡ 1
    → event_answer u b (Start q) ≡ Err NotGranted
start_held u b q t e h =
    start_tried u b q t ∙ ap (λ ok. check ok NotGranted (Ok tt)) (ne_eqb (register b q.0 % 2) 0 (λ z. omega (arith, ap (λ n. n % 2) e)))

pub start_granted : (u : FunctionUnit) (b : Bank) (q : Tag) {x : ℕ} → tag_answer u q.0 ≡ Ok tt → x ≡ register b q.0 → (x % 2 ≡ 1 → ⊥)
    → event_answer u b (Start q) ≡ Ok tt
start_granted u b q t e h =
    start_tried u b q t ∙ ap (λ ok. check ok NotGranted (Ok tt)) (eq-eqb (register b q.0 % 2) 0 (omega (arith, ap (λ n. n % 2) e)))

-- an accepted start, and what accepts it

pub record StartAccepted (u : FunctionUnit) (b : Bank) (q : Tag) : Type 0 where
  pub tag : inside q.0 u.functions ≡ true
  pub granted : granted b q.0 ≡ true

pub start_accepted : (u : FunctionUnit) (b : Bank) (q : Tag) → event_answer u b (Start q) ≡ Ok tt → StartAccepted u b q
unfolding event_answer
start_accepted u b q e =
    let e1 = check_next (sound_of u) NotSound _ e in
    record {
      tag = check_ok (inside q.0 u.functions) NoSuchTag _ e1;
      granted = check_ok (granted b q.0) NotGranted _ (check_next (inside q.0 u.functions) NoSuchTag _ e1);
    }

pub start_answered : (u : FunctionUnit) (b : Bank) (q : Tag) → sound_of u ≡ true → inside q.0 u.functions ≡ true → granted b q.0 ≡ true
    → event_answer u b (Start q) ≡ Ok tt
unfolding event_answer
start_answered u b q s i g = simp (s, i, g)
