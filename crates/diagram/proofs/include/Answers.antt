-- `diagram::include` meets its contract: the index tells whether the state is listed. Assumes nothing.
use native.Mathlib.Omega.{arith}
use Rattle.diagram.proofs.FollowLaws.{include_found, include_full, include_more}
use Rattle.diagram.proofs.include.Goals as goal

pub returns-then-place-count : goal.returns-then-place-count
returns-then-place-count c =
    include_found _ _ _ _ c.requires c.place.ensures c.if-place-count.true

pub returns-then-count-gt255 : goal.returns-then-count-gt255
returns-then-count-gt255 c =
    include_full _ _ _ _ c.requires c.place.ensures c.if-place-count.false (omega (arith, c.if-count-gt255.true))

pub returns : goal.returns
returns c =
    include_more _ _ _ _ c.requires c.place.ensures c.if-place-count.false c.insert.ensures
