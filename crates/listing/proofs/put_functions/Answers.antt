-- `listing::put_functions` meets its contract: each turn adds the lines of one function. Assumes nothing.
use native.Mathlib.Omega.{arith}
use Rattle.text.proofs.WroteLaws.{wrote_length}
use Rattle.listing.proofs.UnitLaws.{functions_few, next_function, told_start, told_more}
use Rattle.listing.proofs.put_functions.Goals as goal

pub loop-tag-init : goal.loop-tag-init
loop-tag-init c = told_start _ _

pub put_function-at-requires : goal.put_function-at-requires
put_function-at-requires c =
    let t = c.loop-tag.invariant in
    (next_function _ c.requires.0 (omega arith), omega (arith, functions_few _ c.requires.0, t.put.few, wrote_length t.put.wrote, c.requires.1))

pub loop-tag-preserved : goal.loop-tag-preserved
loop-tag-preserved c = told_more c.loop-tag.invariant c.put_function-at.ensures
