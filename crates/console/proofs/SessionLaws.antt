-- What a command answers, and the session that it leaves. Assumes nothing.
use Rattle.std.proofs.Common.{Ok, Err}
use mathlib.Core.Path.{◌≡◌, refl, sym, ap, ◌∙◌, subst}
use mathlib.Core.Bool.{Bool, true, false, not}
use mathlib.Core.List.{List}
use Prim.Native.Nat.{ℕ, ◌≤◌}
use native.Mathlib.Omega.{arith}
use borrow.Author.Tests.{eq-eqb}
use lib.Dec.{eqb}
use lib.ListN.{length}
use Rattle.words.proofs.Tests.{nowhere}
use Rattle.unit.specs.declared.FunctionUnit.{FunctionUnit}
use Rattle.unit.specs.declared.Plan.{Plan}
use Rattle.unit.specs.declared.Outcome.{Outcome}
use Rattle.unit.specs.declared.Refusal.{Refusal}
use Rattle.unit.specs.declared.Refusal.TheVariants.{NotSound, NoPlan}
use Rattle.unit.specs.Answers.{Answer}
use Rattle.unit.specs.Unit.{sound_of}
use Rattle.unit.specs.Calls.{check}
use Rattle.unit.proofs.SoundLaws.{sound_means}
use Rattle.controller.specs.declared.Event.{Event}
use Rattle.controller.specs.declared.Stepped.{Stepped}
use Rattle.controller.specs.Bank.{step_of}
use Rattle.planner.specs.Plans.{search_answer, Found, SearchPromise, read_answer, read_of}
use Rattle.planner.proofs.ReadLaws.{read_refused, read_done}
use Rattle.questions.specs.Replies.{answered}
use Rattle.session.specs.declared.Session.{Session}
use Rattle.session.specs.declared.Reply.{Reply}
use Rattle.session.specs.Sessions.{taken, answer_line, Line, Made}
use Rattle.session.proofs.LineLaws.{line_as}
use Rattle.session.proofs.SessionLaws.{made_as}
use Rattle.console.specs.Turns.{with_bank, plan_line, event_asked, Sought}
use Rattle.console.specs.Inner.{Gives}

-- A unit or a bank that a call left

pub edited_as : (s : Session) {made asked : Outcome} {before after : List ℕ} {t : Reply} → made ≡ asked → Made s made before after t
    → Gives (answer_line asked.answer) (λ x. x ≡ taken s asked.answer asked.unit) before after t
edited_as s {made} {asked} {before} {after} {t} e m =
    let g = made_as e m in record { line = record { next = g.end; out = g.out }; next = g.next }

pub stepped_as : (s : Session) (event : Event) {stepped : Stepped} {next : Session} {before after : List ℕ} {end : ℕ} → stepped ≡ step_of s.unit s.bank event
    → Line (answer_line stepped.answer) before after end → next ≡ with_bank s stepped.bank
    → Gives (answer_line (event_asked s event)) (λ x. x ≡ with_bank s (step_of s.unit s.bank event).bank) before after record { session = next; end = end }
stepped_as s event e l n = record { line = line_as (ap (λ (x : Stepped). answer_line x.answer) e) l; next = n ∙ ap (λ (x : Stepped). with_bank s x.bank) e }

-- A search

-- the unit that a search left, with what was at its issue port
abbrev searched : Session → FunctionUnit → Session
searched s u = record { present = s.present; unit = u; bank = s.bank; queue = s.queue; shared = s.shared }

pub sought : (s : Session) {q : ℕ} {made : Outcome} {words before after : List ℕ} {end : ℕ} (zeros : List ℕ) → length zeros ≡ 16000
    → SearchPromise s.unit q zeros words made.answer made.unit → Line (answer_line made.answer) before after end
    → Gives (answer_line (search_answer s.unit q 16000)) (Sought s q) before after record { session = searched s made.unit; end = end }
sought s {q} {made} zeros n p l =
    let says : made.answer ≡ search_answer s.unit q 16000 = p.says ∙ ap (search_answer s.unit q) n in
    record {
      line = line_as (ap answer_line says) l;
      next = record {
        present = refl;
        bank = refl;
        queue = refl;
        shared = refl;
        kept = λ why e. p.kept why (says ∙ e);
        found = λ e. p.found (says ∙ e);
      };
    }

-- A read

-- a sound unit with a plan
record Planned (u : FunctionUnit) : Type 0 where
  sound : sound_of u ≡ true
  tag : eqb u.plan.tag 0 ≡ false

planned : (u : FunctionUnit) → read_answer u ≡ Ok tt → Planned u
unfolding read_answer
planned u e = go (sound_of u) (eqb u.plan.tag 0) refl refl e
  where
    go : (b t : Bool) → sound_of u ≡ b → eqb u.plan.tag 0 ≡ t → check b NotSound (check (not t) NoPlan (Ok tt)) ≡ Ok tt → Planned u
    go true false s n h = record { sound = s; tag = n }
    go true true s n h = let z : ◌≡◌ {A = ℕ} 0 1 = cc in absurd (omega arith)
    go false t s n h = let z : ◌≡◌ {A = ℕ} 0 1 = cc in absurd (omega arith)

-- a plan that is handed out has at most 256 latencies
pub read_few : (u : FunctionUnit) {plan : Plan} → read_of u ≡ Ok plan → plan.count ≤ 256
read_few u e =
    let d = read_done u e in
    let p = planned u d.0 in
    subst (λ (x : Plan). x.count ≤ 256) d.1
    (((sound_means u).0 p.sound).plan (λ z. nowhere (sym p.tag ∙ eq-eqb u.plan.tag 0 z))).1

pub plan_refused : {s : Session} {why : Refusal} {before after : List ℕ} {end : ℕ} → read_of s.unit ≡ Err why
    → Line (answer_line (Err why)) before after end
    → Gives (answered (read_answer s.unit) (plan_line s.unit.plan)) (λ x. x ≡ s) before after record { session = s; end = end }
plan_refused {s} e l =
    record { line = line_as (ap (λ a. answered a (plan_line s.unit.plan)) (sym (read_refused s.unit e))) l; next = refl }

pub plan_told : {s : Session} {plan : Plan} {before after : List ℕ} {end : ℕ} → read_of s.unit ≡ Ok plan
    → Line (plan_line plan) before after end
    → Gives (answered (read_answer s.unit) (plan_line s.unit.plan)) (λ x. x ≡ s) before after record { session = s; end = end }
plan_told {s} e l =
    let d = read_done s.unit e in
    record {
      line = line_as (ap plan_line (sym d.1) ∙ ap (λ a. answered a (plan_line s.unit.plan)) (sym d.0)) l;
      next = refl;
    }
