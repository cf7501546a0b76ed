-- `judge::is_cycle` meets its contract: its tests in turn. Assumes nothing.
use Rattle.std.proofs.Common.{sym, arith}
use Rattle.judge.proofs.CycleLaws.{uncounted, counted_tested}
use Rattle.judge.proofs.is_cycle.Goals as goal

pub returns-then-list-count : goal.returns-then-list-count
returns-then-list-count c = sym (uncounted _ _ (λ r. omega (arith, r.inside)))

pub returns-then-count-lt1 : goal.returns-then-count-lt1
returns-then-count-lt1 c = sym (uncounted _ _ (λ r. omega (arith, r.least)))

pub returns-then-count-gt256 : goal.returns-then-count-gt256
returns-then-count-gt256 c = sym (uncounted _ _ (λ r. omega (arith, r.most)))

pub returns : goal.returns
returns c = counted_tested _ _ c.contains.result (omega arith) (omega arith) (omega arith) c.contains.ensures.cases
