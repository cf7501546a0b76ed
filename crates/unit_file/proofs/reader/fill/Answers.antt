-- `unit_file::reader::fill` meets its contract. The loop's invariant: the functions passed are filled. Assumes nothing.
use Prim.Native.Nat.{◌+◌}
use mathlib.Core.Path.{◌≡◌, ap, ◌∙◌}
use native.Mathlib.Omega.{arith}
use Rattle.unit.specs.declared.Outcome.{Outcome}
use Rattle.unit.specs.Calls.{fresh_of}
use Rattle.unit_file.specs.Read.{functions_in}
use Rattle.unit_file.specs.InnerRead.{unit_before}
use Rattle.unit_file.proofs.FillLaws.{unit_start, unit_end}
use Rattle.unit_file.proofs.reader.fill.Goals as goal

pub loop-tag-init : goal.loop-tag-init
unfolding fresh_of
loop-tag-init c =
    ap (λ (o : Outcome). o.unit) c.fresh-made.ensures ∙ unit_start c.args.file.now

pub returns-2 : goal.returns-2
returns-2 c =
    let f = c.args.file.now in
    let e : c.loop-tag.tag + 1 ≡ functions_in f + 1 = omega arith in
    c.fill_function-filled.ensures ∙ ap (λ k. unit_before f k 1) e ∙ unit_end f
