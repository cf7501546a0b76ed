-- Lines of `small`, worked out by hand, and what the session is after it. Assumes nothing.
use Rattle.std.proofs.Common.{Ok}
use Prim.Native.Nat.{ℕ}
use mathlib.Core.Path.{◌≡◌, refl, sym, ap, ◌∙◌}
use mathlib.Core.Bool.{true}
use mathlib.Core.List.{List}
use native.Mathlib.Omega.{arith}
use Rattle.words.proofs.Tests.{nowhere}
use Rattle.text.specs.Text.{ascii, digits, decimal}
use Rattle.unit.specs.Calls.{unit_of}
use Rattle.command_table.specs.declared.Verb.TheVariants as Verb
use Rattle.command.specs.declared.Request.{Request}
use Rattle.session.specs.declared.Session.{Session}
use Rattle.session.specs.declared.Reply.{Reply}
use Rattle.session.specs.Sessions.{opening, taken, Line}
use Rattle.session.proofs.LineLaws.{line_as}
use Rattle.table_numbers.specs.Tables.{small_table, small_table_answer, small_table_of}
use Rattle.table_totals.specs.Totals.{totals_answer}
use Rattle.total_claims.specs.Examples.{totalling}
use Rattle.total_claims.proofs.SizeLaws.{one_column}
use Rattle.small_text.specs.Told.{totals_line, totalled_line, SmallOn}

-- Lines

pub two_columns_line : totals_line (totalling 4 4 2 1 3) ≡ ascii "tables 4 at bound 4 largest 2/1 first 3\n"
unfolding decimal digits
two_columns_line = refl

pub one_column_line : totals_line (totalling 2 2 1 1 0) ≡ ascii "tables 2 at bound 2 largest 1/1 first 0\n"
unfolding decimal digits
one_column_line = refl

-- Commands

-- one segment and one column; and with a number
abbrev size : Request
size = record { verb = Verb.Small; count = 2; first = 1; second = 1; third = 0 }

abbrev number : ℕ → Request
number n = record { verb = Verb.Small; count = 3; first = 1; second = 1; third = n }

module _ {s : Session} {before after : List ℕ} {t : Reply} where
  -- `small 1 1` is told the totals of that size in every session
  pub told_one_column : SmallOn s size before after t → Line (ascii "tables 2 at bound 2 largest 1/1 first 0\n") before after t.end
  unfolding totals_answer
  told_one_column x =
      let told = x.totals (omega arith) in
      let f = told.answers.found refl in
      line_as (ap totalled_line f.told ∙ ap totals_line (one_column.only f.totals f.of_size) ∙ one_column_line) told.line

  -- and leaves it as it was
  pub kept_by_totals : SmallOn s size before after t → t.session ≡ s
  kept_by_totals x = (x.totals (omega arith)).next

  -- `small 1 1 1` leaves the table with a mark
  pub taken_1 : SmallOn s (number 1) before after t → t.session ≡ taken s (Ok tt) (unit_of 1 1 1 (small_table 1 1 1))
  unfolding small_table_of small_table_answer
  taken_1 x = (x.table (omega arith)).next

  -- there is no number 2, and the session stays
  pub kept_at_2 : SmallOn s (number 2) before after t → t.session ≡ s
  unfolding small_table_of small_table_answer
  kept_at_2 x = (x.table (omega arith)).next

-- What is not so

-- the totals do not make a unit
pub not_by_totals : {before after : List ℕ} {t : Reply} → SmallOn opening size before after t → t.session.present ≡ true → ⊥
not_by_totals x e = nowhere (sym (ap (λ (s : Session). s.present) (kept_by_totals x)) ∙ e)

-- nor does a number that no table has
pub not_at_2 : {before after : List ℕ} {t : Reply} → SmallOn opening (number 2) before after t → t.session.present ≡ true → ⊥
not_at_2 x e = nowhere (sym (ap (λ (s : Session). s.present) (kept_at_2 x)) ∙ e)
