-- `chart::rows::length_of` meets its contract. Assumes nothing.
use Prim.Native.Nat.{◌+◌, ◌*◌, ◌≤◌}
use mathlib.Core.Path.{◌≡◌, ap}
use native.Mathlib.Omega.{arith}
use borrow.Author.Rules.{rules}
use Rattle.text.proofs.DecimalLaws.{decimal_some}
use Rattle.chart.specs.Inner.{line_length}
use Rattle.chart.proofs.DigitLaws.{one_digit}
use Rattle.chart.proofs.LineLaws.{digits_few, lines_few}
use Rattle.chart.proofs.rows.length_of.Goals as goal

pub overflow_add-digits : goal.overflow_add-digits
overflow_add-digits c = let d = digits_few c.args.units (search rules) in omega (arith, c.spaces_before-digits.ensures, d)

pub overflow_mul-result-2 : goal.overflow_mul-result-2
overflow_mul-result-2 c = let d = digits_few c.args.units (search rules) in omega (arith, c.spaces_before-digits.ensures, d)

pub overflow_add-result-2 : goal.overflow_add-result-2
overflow_add-result-2 c = let d = digits_few c.args.units (search rules) in omega (arith, c.spaces_before-digits.ensures, d)

pub overflow_add-result-3 : goal.overflow_add-result-3
overflow_add-result-3 c = let d = digits_few c.args.units (search rules) in omega (arith, c.spaces_before-digits.ensures, d)

pub overflow_mul-result-3 : goal.overflow_mul-result-3
overflow_mul-result-3 c =
    let product : (c.args.units + 2 * (c.spaces_before-digits.result + 1) + 16) * c.args.segments ≤ 4294967332 * 256 = let a = c.args in
    let d = digits_few a.units (search rules) in
    lines_few _ a.units a.segments (omega (arith, c.spaces_before-digits.ensures, one_digit 0 (omega arith), d)) (search rules) (search rules) in
    omega (arith, product)

pub overflow_add-result-4 : goal.overflow_add-result-4
overflow_add-result-4 c =
    let product : (c.args.units + 2 * (c.spaces_before-digits.result + 1) + 16) * c.args.segments ≤ 4294967332 * 256 = let a = c.args in
    let d = digits_few a.units (search rules) in
    lines_few _ a.units a.segments (omega (arith, c.spaces_before-digits.ensures, one_digit 0 (omega arith), d)) (search rules) (search rules) in
    omega (arith, product)

pub returns : goal.returns
unfolding line_length
returns c =
    let line-is : c.args.units + 2 * (c.spaces_before-digits.result + 1) + 16 ≡ line_length c.args.units = omega (arith, c.spaces_before-digits.ensures, one_digit 0 (omega arith), decimal_some c.args.units) in
    let a = c.args in
    ap (λ n. 2 * a.units + 18 + n * a.segments) line-is
