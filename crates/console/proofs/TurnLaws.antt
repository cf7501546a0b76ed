-- One command: what it answers goes by the verb, where there is a unit. Assumes nothing.
use mathlib.Core.Path.{◌≡◌, refl, sym, ap, ◌∙◌, subst}
use mathlib.Core.Bool.{true, false, cond}
use mathlib.Core.List.{List, []}
use Prim.Native.Nat.{ℕ}
use native.Mathlib.Omega.{arith}
use Rattle.text.specs.Text.{put_in, put_end}
use Rattle.text.proofs.PutLaws.{put_fits, put_fits_end, placed_none}
use Rattle.command_table.specs.declared.Act.{Act}
use Rattle.command_table.specs.declared.Issue.{Issue}
use Rattle.command_table.specs.declared.Share.{Share}
use Rattle.command_table.specs.declared.Verb.{Verb}
use Rattle.command.specs.declared.Request.{Request}
use Rattle.session.specs.declared.Session.{Session}
use Rattle.session.specs.declared.Reply.{Reply}
use Rattle.session.specs.Sessions.{Line}
use Rattle.queue_text.specs.Told.{issue_reply, issue_next, Issued}
use Rattle.caller_text.specs.Told.{share_reply, share_next, SharedOn}
use Rattle.console.specs.Turns.{no_unit, act_reply, unit_reply, turn_reply, ActNext, UnitNext, Next, Turned}
use Rattle.console.specs.Inner.{Gives}
use Rattle.session.proofs.LineLaws.{line_as}

module _ {s : Session} {r : Request} {line before after : List ℕ} where
  -- without a unit
  pub turned_none : {end : ℕ} → s.present ≡ false → (end ≡ put_end before 0 no_unit) × (after ≡ put_in before 0 no_unit) → Turned s r line before after record { session = s; end = end }
  unfolding turn_reply
  turned_none p q =
      let e : no_unit ≡ turn_reply s r line = ap (λ b. cond b (unit_reply r.verb s r line) no_unit) (sym p) in
      let l : Line no_unit before after _ = record { next = q.0; out = q.1 } in
      record {
        out = (line_as e l).out;
        end = (line_as e l).next;
        next = subst (λ b. Next b r.verb s r s) (sym p) refl;
      }

  -- with a unit, by the verb
  pub turned_by_lem : {v : Verb} {t : Reply} → s.present ≡ true → r.verb ≡ v → Gives (unit_reply v s r line) (UnitNext v s r) before after t
      → Turned s r line before after t
  unfolding turn_reply
  turned_by_lem {v} {t} p e g =
      let same : unit_reply v s r line ≡ turn_reply s r line =
      ap (λ x. unit_reply x s r line) (sym e) ∙ ap (λ b. cond b (unit_reply r.verb s r line) no_unit) (sym p)
      in
      record {
        out = (line_as same g.line).out;
        end = (line_as same g.line).next;
        next = subst (λ b. Next b r.verb s r t.session) (sym p) (subst (λ x. UnitNext x s r t.session) (sym e) g.next);
      }

-- by what is done
pub act_by : (s : Session) (r : Request) {what v : Act} {before after : List ℕ} {t : Reply} → what ≡ v → Gives (act_reply v s r) (ActNext v s r) before after t
    → Gives (act_reply what s r) (ActNext what s r) before after t
act_by s r {before = before} {after} {t} e g = subst (λ x. Gives (act_reply x s r) (ActNext x s r) before after t) (sym e) g

-- at the issue port
pub gives_issued : (s : Session) (r : Request) {what : Issue} {before after : List ℕ} {t : Reply} → Issued what s r before after t
    → Gives (issue_reply what s r) (λ x. x ≡ issue_next what s r) before after t
gives_issued s r i = record { line = record { next = i.end; out = i.out }; next = i.next }

-- at the port that callers share
pub gives_shared : (s : Session) (r : Request) {what : Share} {before after : List ℕ} {t : Reply} → SharedOn what s r before after t
    → Gives (share_reply what s r) (λ x. x ≡ share_next what s r) before after t
gives_shared s r i = record { line = record { next = i.end; out = i.out }; next = i.next }

-- The number of a request as a tag

-- the number was narrowed to a byte
pub gives_at : {n m : ℕ} {before after : List ℕ} {t : Reply} (text : ℕ → List ℕ) (N : ℕ → Session → Type 0) → n ≡ m → Gives (text n) (N n) before after t
    → Gives (text m) (N m) before after t
gives_at {before = before} {after} {t} text N e g = subst (λ (k : ℕ). Gives (text k) (N k) before after t) e g

-- Commands that are answered elsewhere

nothing_put : (before : List ℕ) → Line [] before before 0
nothing_put before =
    record { next = sym (put_fits_end before 0 [] (omega arith)); out = sym (put_fits before 0 [] (omega arith) ∙ placed_none before 0) }

pub gives_nothing : {s : Session} {before : List ℕ} → Gives [] (λ x. x ≡ s) before before record { session = s; end = 0 }
gives_nothing {before = before} = record { line = nothing_put before; next = refl }
