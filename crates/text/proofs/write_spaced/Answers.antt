-- `text::write_spaced` meets its contract. Assumes nothing.
use native.Mathlib.Omega.{arith}
use lib.ListN.{length-set}
use Rattle.text.proofs.RowLaws.{spaced_one}
use Rattle.text.proofs.write_spaced.Goals as goal

pub put_digits-requires : goal.put_digits-requires
put_digits-requires c = omega (arith, length-set c.args.out.now c.args.at 32)

pub shape_of-out : goal.shape_of-out
shape_of-out c =
    let a = c.args in
    omega (arith, length-set a.out.now a.at 32)

pub returns : goal.returns
returns c =
    spaced_one c.args.number c.requires (c.put_digits.ensures.value, c.put_digits.ensures.out_after)
