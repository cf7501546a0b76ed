-- `diagram::enlist` meets its contract: the words are cleared, the first state inserted, the others found from it. Assumes nothing.
use native.Mathlib.Omega.{arith}
use Rattle.diagram.proofs.ClearLaws.{clear_indexed}
use Rattle.diagram.proofs.FollowLaws.{confined_trans}
use Rattle.diagram.proofs.EnlistLaws.{grown_after, enlist_short, enlist_many, enlist_all}
use Rattle.diagram.proofs.enlist.Goals as goal

pub returns-then-work-lt768 : goal.returns-then-work-lt768
returns-then-work-lt768 c = enlist_short _ _ c.if-work-lt768.true

pub insert-requires : goal.insert-requires
insert-requires c =
    (omega arith, clear_indexed c.if-work-lt768.false c.clear.ensures)

pub explore-count-requires : goal.explore-count-requires
explore-count-requires c = c.insert.ensures.held (omega arith)

pub returns-then-count-gt256 : goal.returns-then-count-gt256
returns-then-count-gt256 c =
    let before = confined_trans c.clear.ensures.confined c.insert.ensures.confined in
    enlist_many _ c.if-work-lt768.false (grown_after before c.explore-count.ensures) c.if-count-gt256.true

pub returns : goal.returns
returns c =
    let before = confined_trans c.clear.ensures.confined c.insert.ensures.confined in
    enlist_all _ c.if-work-lt768.false (grown_after before c.explore-count.ensures) c.if-count-gt256.false
