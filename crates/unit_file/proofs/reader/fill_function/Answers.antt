use Rattle.std.proofs.Common.{ℕ, ◌≡◌, ◌+◌, ap, ap₂, ◌∙◌, arith}
use Rattle.unit.specs.declared.FunctionUnit.{FunctionUnit}
use Rattle.unit.specs.declared.Outcome.{Outcome}
use Rattle.unit.specs.Calls.{column_of}
use Rattle.unit_file.specs.Read.{columns_in}
use Rattle.unit_file.specs.InnerRead.{unit_before}
use Rattle.unit_file.proofs.FillLaws.{unit_more, unit_next}
use Rattle.unit_file.proofs.reader.fill_function.Goals as goal
use Rattle.unit_file.proofs.reader.fill_function.Goals.{After-with_column-given}

-- one column more is filled
more : (c : After-with_column-given) → c.with_column-given.result.unit ≡ unit_before c.args.file.now c.args.tag (c.loop-column.column + 1)
more c =
    ap (λ (o : Outcome). o.unit) c.with_column-given.ensures
    ∙ ap₂ (λ (u : FunctionUnit) (w : ℕ). (column_of u c.args.tag c.loop-column.column w).unit) c.loop-column.invariant c.column_word-word.ensures
    ∙ unit_more c.args.file.now c.requires.0 c.args.tag c.loop-column.column c.requires.1 (omega arith)

pub loop-column-preserved : goal.loop-column-preserved
loop-column-preserved c = more (goal.at.loop-column-preserved c).After-with_column-given

pub returns-2 : goal.returns-2
returns-2 c =
    let f = c.args.file.now in
    let e : c.loop-column.column + 1 ≡ columns_in f + 1 = omega arith in
    more (goal.at.returns-2 c).After-with_column-given ∙ ap (unit_before f c.args.tag) e ∙ unit_next f c.requires.0 c.args.tag
