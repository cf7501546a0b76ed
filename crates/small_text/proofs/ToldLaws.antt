-- What `small` is answered, by the number of words after its name. Assumes nothing.
use Rattle.std.proofs.Common.{Result}
use Prim.Native.Nat.{ℕ, ◌≤◌, ◌<◌}
use mathlib.Core.Path.{◌≡◌, refl, ap₂, ◌∙◌, subst}
use mathlib.Core.List.{List}
use native.Mathlib.Omega.{arith}
use lib.ListN.{length}
use Rattle.unit.specs.declared.Outcome.{Outcome}
use Rattle.command.specs.declared.Request.{Request}
use Rattle.session.specs.declared.Session.{Session}
use Rattle.session.specs.declared.Reply.{Reply}
use Rattle.session.specs.Sessions.{one, two, Line, Made}
use Rattle.session.proofs.SessionLaws.{made_as}
use Rattle.table_numbers.specs.Tables.{small_table_of}
use Rattle.table_totals.specs.Totals.{AnswersTotals, TotalsPromise}
use Rattle.small_text.specs.Told.{totalled_line, TotalsTold, SmallOn}
use Rattle.table_totals.specs.declared.SizeTotals.{SizeTotals}
use Rattle.unit.specs.declared.Refusal.{Refusal}

pub told_as : (s : Session) (r : Request) {a b : ℕ} {zeros words : List ℕ} {answer : (Result SizeTotals Refusal)} {before after : List ℕ} {end : ℕ} → a ≡ one r → b ≡ two r
    → length zeros ≡ 16000 → TotalsPromise a b zeros words answer → Line (totalled_line answer) before after end
    → TotalsTold s r before after record { session = s; end = end }
told_as s r {a} {b} {zeros} {answer = answer} e f n p l = record { answer = answer; answers = asked; line = l; next = refl }
  where
    asked : AnswersTotals (one r) (two r) 16000 answer
    asked =
        subst (λ (x : ℕ). AnswersTotals x (two r) 16000 answer) e
        (subst (λ (x : ℕ). AnswersTotals a x 16000 answer) f (subst (λ (x : ℕ). AnswersTotals a b x answer) n p.answers))

module _ {s : Session} {r : Request} {before after : List ℕ} {t : Reply} where
  pub on_totals : r.count < 3 → TotalsTold s r before after t → SmallOn s r before after t
  on_totals few told = record { totals = λ h. told; table = λ h. absurd (omega arith) }

  pub on_table : {a b : ℕ} {made : Outcome} → 3 ≤ r.count → a ≡ one r → b ≡ two r → made ≡ small_table_of a b r.third → Made s made before after t
      → SmallOn s r before after t
  on_table {a} {b} many e f m taken = record {
    totals = λ h. absurd (omega arith);
    table = λ h. made_as (m ∙ ap₂ (λ (x y : ℕ). small_table_of x y r.third) e f) taken;
  }
