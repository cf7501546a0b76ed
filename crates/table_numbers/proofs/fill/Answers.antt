use Rattle.std.proofs.Common.{ℕ, ◌≡◌, ◌+◌, ap, ap₂, ◌∙◌, arith}
use Rattle.unit.specs.declared.FunctionUnit.{FunctionUnit}
use Rattle.unit.specs.declared.Outcome.{Outcome}
use Rattle.unit.specs.Calls.{fresh_of, column_of}
use Rattle.table_numbers.specs.Inner.{unit_before}
use Rattle.table_numbers.proofs.FillLaws.{unit_start, unit_more, unit_end}
use Rattle.table_numbers.proofs.fill.Goals as goal
use Rattle.table_numbers.proofs.fill.Goals.{After-with_column-given}

-- one column more is filled
more : (c : After-with_column-given) → c.with_column-given.result.unit ≡ unit_before c.args.segments c.args.columns c.args.number (c.loop-column.column + 1)
more c =
    ap (λ (o : Outcome). o.unit) c.with_column-given.ensures
    ∙ ap₂ (λ (u : FunctionUnit) (w : ℕ). (column_of u 1 c.loop-column.column w).unit) c.loop-column.invariant c.column_word-word.ensures
    ∙ unit_more c.requires c.args.number c.loop-column.column (omega arith) (omega arith)

pub loop-column-init : goal.loop-column-init
unfolding fresh_of
loop-column-init c = ap (λ (o : Outcome). o.unit) c.fresh-made.ensures ∙ unit_start c.requires c.args.number

pub loop-column-preserved : goal.loop-column-preserved
loop-column-preserved c = more (goal.at.loop-column-preserved c).After-with_column-given

pub returns-2 : goal.returns-2
returns-2 c =
    let a = c.args in
    let e : c.loop-column.column + 1 ≡ a.columns + 1 = omega arith in
    more (goal.at.returns-2 c).After-with_column-given ∙ ap (unit_before a.segments a.columns a.number) e ∙ unit_end c.requires a.number
