use Rattle.std.proofs.Common.{◌/◌, length, sym, ap, arith}
use Rattle.text.proofs.DecimalLaws.{decimal_small, decimal_length, decimal_longer}
use Rattle.text.proofs.+digits_of.Goals as goal

pub returns-then-number-lt10 : goal.returns-then-number-lt10
returns-then-number-lt10 t c = sym (ap length (decimal_small c.args.number (omega arith)))

pub overflow_add-result : goal.overflow_add-result
overflow_add-result t c = omega (arith, decimal_length (c.args.number / 10) 10 (omega arith) (omega arith))

pub returns : goal.returns
returns t c = omega (arith, decimal_longer c.args.number (omega arith) (omega arith))
