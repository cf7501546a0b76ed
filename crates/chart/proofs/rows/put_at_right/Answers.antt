-- `chart::rows::put_at_right` meets its contract. Assumes nothing.
use mathlib.Core.List.{◌++◌}
use mathlib.Core.Path.{ap, ◌∙◌}
use native.Mathlib.Omega.{arith}
use borrow.Author.Rules.{rules}
use lib.ListN.{length, replicate}
use Rattle.text.specs.Text.{decimal}
use Rattle.text.proofs.BoundedLaws.{put_one, put_word, put_as}
use Rattle.chart.proofs.DigitLaws.{digits_most}
use Rattle.chart.proofs.LineLaws.{blank_front, blank_length, digits_few}
use Rattle.chart.proofs.rows.put_at_right.Goals as goal

pub slice_bounds-blank-end : goal.slice_bounds-blank-end
slice_bounds-blank-end c = omega (arith, c.spaces_before-spaces.ensures, digits_few c.args.most (search rules))

pub slice_bounds-put-end : goal.slice_bounds-put-end
slice_bounds-put-end c = blank_length c.spaces_before-spaces.result (omega (arith, c.spaces_before-spaces.ensures, digits_few c.args.most (search rules)))

pub returns : goal.returns
returns c =
    let a = c.args in
    let d = digits_most a.number a.most (search rules) c.requires.0 in
    let few = digits_few a.most (search rules) in
    let p = put_one c.spaces_before-spaces.result _ (c.put-after_blank.ensures.value, c.put-after_blank.ensures.out_after) (omega (arith, blank_length c.spaces_before-spaces.result (omega (arith, c.spaces_before-spaces.ensures)))) (omega (arith, c.spaces_before-spaces.ensures, c.requires.1)) in
    put_as (put_word (length (decimal a.number)) _ p (c.put_number.ensures.value, c.put_number.ensures.out_after) (omega arith) (omega (arith, c.spaces_before-spaces.ensures, c.requires.1)))
    (ap (λ l. l ++ decimal a.number) (blank_front c.spaces_before-spaces.result (omega (arith, c.spaces_before-spaces.ensures))) ∙ ap (λ n. replicate n 32 ++ decimal a.number) c.spaces_before-spaces.ensures)
    (omega (arith, c.spaces_before-spaces.ensures))
