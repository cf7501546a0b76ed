-- The lines at the issue port, and the session that a command leaves. Assumes nothing.
use mathlib.Core.Path.{◌≡◌, sym, ap, ap₂, ◌∙◌, subst}
use mathlib.Core.List.{List, ◌++◌}
use Prim.Native.Nat.{ℕ, ◌*◌, min}
use native.Mathlib.Omega.{arith}
use lib.ListN.{length, take, length-take}
use Rattle.text.specs.Text.{ascii, decimal, spaced}
use Rattle.listing.specs.Lines.{newline}
use Rattle.queue.specs.declared.Queue.{Queue}
use Rattle.queue.specs.declared.Joined.{Joined}
use Rattle.queue.specs.declared.Advanced.{Advanced}
use Rattle.queue.specs.Calls.{join_of, advance_of}
use Rattle.command_table.specs.declared.Issue.{Issue}
use Rattle.command_table.specs.declared.Issue.TheVariants as Issue
use Rattle.command.specs.declared.Request.{Request}
use Rattle.session.specs.declared.Session.{Session}
use Rattle.session.specs.declared.Reply.{Reply}
use Rattle.session.specs.Sessions.{with_port, one, answer_line, Line}
use Rattle.session.proofs.LineLaws.{line_as}
use Rattle.queue_text.specs.Told.{passed_line, flat, queue_line, Issued}
use Rattle.queue_text.proofs.FlatLaws.{take_most}

-- the records that wait, told by their numbers
pub queue_told : (q : Queue) (n : ℕ) (numbers : List ℕ) → n ≡ min q.count 32 → take (2 * n) numbers ≡ flat (take n q.list) → length q.list ≡ 32
    → ascii "queue " ++ decimal n ++ ascii ":" ++ spaced (take (2 * n) numbers) ++ newline ≡ queue_line q
queue_told q n numbers e f l =
    let same : take n q.list ≡ take q.count q.list = ap (λ (k : ℕ). take k q.list) e ∙ take_most q.list q.count 32 l in
    let long : n ≡ length (take q.count q.list) = omega (arith, e, l, length-take q.count q.list) in
    ap₂ (λ (k : ℕ) (x : List ℕ). ascii "queue " ++ decimal k ++ ascii ":" ++ spaced x ++ newline) long (f ∙ ap flat same)

-- Commands

pub arrived_as : (s : Session) (r : Request) {t : ℕ} {j : Joined} {next : Session} {before after : List ℕ} {end : ℕ} → t ≡ one r
    → j ≡ join_of s.unit s.queue (record { tag = t; ticket = r.second }) → Line (answer_line j.answer) before after end
    → next ≡ with_port s s.bank j.queue s.shared → Issued Issue.Arrive s r before after record { session = next; end = end }
arrived_as s r e f l n =
    let g = f ∙ ap (λ (t : ℕ). join_of s.unit s.queue (record { tag = t; ticket = r.second })) e in
    let m = line_as (ap (λ (x : Joined). answer_line x.answer) g) l in
    record {
      out = m.out;
      end = m.next;
      next = n ∙ ap (λ (x : Joined). with_port s s.bank x.queue s.shared) g;
    }

pub passed_as : (s : Session) (r : Request) {a : Advanced} {next : Session} {before after : List ℕ} {end : ℕ}
    → a ≡ advance_of s.unit s.bank s.queue → Line (passed_line a.answer) before after end
    → next ≡ with_port s a.bank a.queue s.shared → Issued Issue.Pass s r before after record { session = next; end = end }
passed_as s r e l n =
    let m = line_as (ap (λ (x : Advanced). passed_line x.answer) e) l in
    record {
      out = m.out;
      end = m.next;
      next = n ∙ ap (λ (x : Advanced). with_port s x.bank x.queue s.shared) e;
    }

pub issued_by : (s : Session) (r : Request) {what v : Issue} {before after : List ℕ} {t : Reply} → what ≡ v → Issued v s r before after t
    → Issued what s r before after t
issued_by s r {before = before} {after} {t} e i = subst (λ (x : Issue). Issued x s r before after t) (sym e) i
