-- The session that a command at a shared port leaves. Assumes nothing.
use Rattle.std.proofs.Common.{Ok}
use mathlib.Core.Path.{◌≡◌, sym, ap, ap₂, ◌∙◌, subst}
use mathlib.Core.Bool.{Bool}
use mathlib.Core.List.{List}
use Prim.Native.Nat.{ℕ}
use Rattle.unit.specs.Answers.{Answer}
use Rattle.unit.specs.declared.Refusal.TheVariants.{NoSuchCaller}
use Rattle.unit.specs.Unit.{inside}
use Rattle.unit.specs.Calls.{tested_by}
use Rattle.callers.specs.declared.Shared.{Shared}
use Rattle.callers.specs.declared.Called.{Called}
use Rattle.callers.specs.declared.Taken.{Taken}
use Rattle.callers.specs.Calls.{call_of, taken_of}
use Rattle.command_table.specs.declared.Share.{Share}
use Rattle.command_table.specs.declared.Share.TheVariants as Share
use Rattle.command.specs.declared.Request.{Request}
use Rattle.session.specs.declared.Session.{Session}
use Rattle.session.specs.declared.Reply.{Reply}
use Rattle.session.specs.Sessions.{with_port, one, two, answer_line, Line}
use Rattle.session.proofs.LineLaws.{line_as}
use Rattle.caller_text.specs.Told.{served_line, shared_then, SharedOn}

pub opened_as : (s : Session) (r : Request) {n : ℕ} {some : Bool} {a : Answer} {p : Shared} {next : Session} {before after : List ℕ} {end : ℕ} → n ≡ one r
    → some ≡ inside n 4 → a ≡ tested_by (Ok tt) some NoSuchCaller → Line (answer_line a) before after end → p ≡ shared_then a n s.shared
    → next ≡ with_port s s.bank s.queue p → SharedOn Share.Callers s r before after record { session = next; end = end }
opened_as s r {n} e i t l p m =
    let a = t ∙ ap (λ (b : Bool). tested_by (Ok tt) b NoSuchCaller) (i ∙ ap (λ (k : ℕ). inside k 4) e) in
    let k = line_as (ap answer_line a) l in
    record {
      out = k.out;
      end = k.next;
      next = m ∙ ap (with_port s s.bank s.queue) (p ∙ ap₂ (λ (x : Answer) (j : ℕ). shared_then x j s.shared) a e);
    }

pub called_as : (s : Session) (r : Request) {n t : ℕ} {c : Called} {next : Session} {before after : List ℕ} {end : ℕ} → n ≡ one r → t ≡ two r
    → c ≡ call_of s.unit s.shared n (record { tag = t; ticket = r.third }) → Line (answer_line c.answer) before after end
    → next ≡ with_port s s.bank s.queue c.shared → SharedOn Share.Call s r before after record { session = next; end = end }
called_as s r e f c l n =
    let g = c ∙ ap₂ (λ (i t : ℕ). call_of s.unit s.shared i (record { tag = t; ticket = r.third })) e f in
    let m = line_as (ap (λ (x : Called). answer_line x.answer) g) l in
    record {
      out = m.out;
      end = m.next;
      next = n ∙ ap (λ (x : Called). with_port s s.bank s.queue x.shared) g;
    }

pub turned_as : (s : Session) (r : Request) {t : Taken} {next : Session} {before after : List ℕ} {end : ℕ} → t ≡ taken_of s.unit s.bank s.shared
    → Line (served_line t.answer) before after end → next ≡ with_port s t.bank s.queue t.shared
    → SharedOn Share.Turn s r before after record { session = next; end = end }
turned_as s r e l n =
    let m = line_as (ap (λ (x : Taken). served_line x.answer) e) l in
    record {
      out = m.out;
      end = m.next;
      next = n ∙ ap (λ (x : Taken). with_port s x.bank s.queue x.shared) e;
    }

pub shared_by : (s : Session) (r : Request) {what v : Share} {before after : List ℕ} {t : Reply} → what ≡ v → SharedOn v s r before after t
    → SharedOn what s r before after t
shared_by s r {before = before} {after} {t} e i = subst (λ (x : Share). SharedOn x s r before after t) (sym e) i
