-- What a session takes in. Assumes nothing.
use Rattle.std.proofs.Common.{Ok, Err}
use mathlib.Core.Path.{◌≡◌, sym, ap, ap₂, ◌∙◌, subst}
use mathlib.Core.Bool.{true}
use mathlib.Core.List.{List}
use Prim.Native.Nat.{ℕ}
use Rattle.unit.specs.declared.FunctionUnit.{FunctionUnit}
use Rattle.unit.specs.declared.Outcome.{Outcome}
use Rattle.unit.specs.declared.Refusal.{Refusal}
use Rattle.unit.specs.Answers.{Answer}
use Rattle.controller.specs.Bank.{empty}
use Rattle.queue.specs.declared.Queue.{Queue}
use Rattle.queue.specs.Calls.{empty_queue}
use Rattle.callers.specs.declared.Shared.{Shared}
use Rattle.callers.specs.Calls.{empty_shared}
use Rattle.session.specs.declared.Session.{Session}
use Rattle.session.specs.declared.Reply.{Reply}
use Rattle.session.specs.Sessions.{taken, answer_line, Line, Made}

-- three numbers, each in other words
pub by_three : {A : Type 0} (f : ℕ → ℕ → ℕ → A) {x y z a b c : ℕ} → x ≡ a → y ≡ b → z ≡ c → f x y z ≡ f a b c
by_three f {x} {y} {z} {a} e g h = ap (λ n. f n y z) e ∙ ap₂ (f a) g h

-- A unit that was made

pub taken_refused : (s : Session) (u : FunctionUnit) {a : Answer} {why : Refusal} {before after : List ℕ} {end : ℕ} → a ≡ Err why
    → Line (answer_line a) before after end → Made s (record { answer = a; unit = u }) before after record { session = s; end = end }
taken_refused s u e l = record { out = l.out; end = l.next; next = ap (λ b. taken s b u) (sym e) }

pub taken_done : (s : Session) (u : FunctionUnit) {a : Answer} {q : Queue} {p : Shared} {before after : List ℕ} {end : ℕ} → a ≡ Ok tt → q ≡ empty_queue
    → p ≡ empty_shared s.shared.callers → Line (answer_line a) before after end
    → Made s (record { answer = a; unit = u }) before after
    record { session = record { present = true; unit = u; bank = empty; queue = q; shared = p }; end = end }
taken_done s u e f g l = record {
  out = l.out;
  end = l.next;
  next = ap₂ (λ (x : Queue) (y : Shared). record { present = true; unit = u; bank = empty; queue = x; shared = y }) f g ∙ ap (λ b. taken s b u) (sym e);
}

pub made_as : {s : Session} {made asked : Outcome} {before after : List ℕ} {t : Reply} → made ≡ asked → Made s made before after t → Made s asked before after t
made_as {s} {before = before} {after} {t} e m = subst (λ (o : Outcome). Made s o before after t) e m
