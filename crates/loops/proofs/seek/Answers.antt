-- `loops::seek` meets its contract: each answer is a law of SeekLaws. Assumes nothing.
use Rattle.loops.proofs.SeekLaws.{sought_many, never_no, turnable, sought_found}
use Rattle.loops.proofs.seek.Goals as goal

pub returns-then-count-gt256 : goal.returns-then-count-gt256
returns-then-count-gt256 c =
    sought_many _ _ _ _ _ _ c.requires c.rules_of-rules.ensures c.explore-count.ensures c.if-count-gt256.true

pub returns-in_default : goal.returns-in_default
returns-in_default c =
    absurd (never_no _ _ _ _ _ _ _ c.requires c.rules_of-rules.ensures c.explore-count.ensures c.if-count-gt256.false c.in_default.ensures)

pub plan_of-requires : goal.plan_of-requires
plan_of-requires c =
    turnable _ _ _ _ _ _ _ c.requires c.rules_of-rules.ensures c.explore-count.ensures c.if-count-gt256.false _ c.in-Some.ensures

pub returns : goal.returns
returns c =
    sought_found _ _ _ _ _ _ _ c.requires c.rules_of-rules.ensures c.explore-count.ensures c.if-count-gt256.false _ c.in-Some.ensures _ c.plan_of.ensures
