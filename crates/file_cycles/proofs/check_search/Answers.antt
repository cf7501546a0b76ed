-- `file_cycles::check_search` meets its contract: the tests in their order. Assumes nothing.
use Rattle.std.proofs.Common.{sym, ◌∙◌}
use native.Mathlib.Omega.{arith}
use Rattle.unit.proofs.Exits.{handed_on}
use Rattle.file_cycles.proofs.SearchLaws.{checked_read, checked_tag, checked_work, checked_out, checked_done}
use Rattle.file_cycles.proofs.check_search.Goals as goal

pub returns-in_err-read : goal.returns-in_err-read
returns-in_err-read c =
    handed_on c.from_residual.ensures.1 (sym c.in_err-read.was ∙ checked_read _ _ _ _ c.in_err-read.was)

pub returns-in_err-tagged : goal.returns-in_err-tagged
returns-in_err-tagged c =
    handed_on c.from_residual-in_err-tagged.ensures.1 (sym c.in_err-tagged.was ∙ checked_tag _ _ _ _ c.in_ok-read.was c.in_err-tagged.was)

pub returns-then-work-lt16000 : goal.returns-then-work-lt16000
returns-then-work-lt16000 c =
    checked_work _ _ _ _ c.in_ok-read.was c.in_ok-tagged.was (omega (arith, c.if-work-lt16000.true))

pub returns-then-out-lt256 : goal.returns-then-out-lt256
returns-then-out-lt256 c =
    checked_out _ _ _ _ c.in_ok-read.was c.in_ok-tagged.was (omega (arith, c.if-work-lt16000.false)) (omega (arith, c.if-out-lt256.true))

pub returns : goal.returns
returns c =
    checked_done _ _ _ _ c.in_ok-read.was c.in_ok-tagged.was (omega (arith, c.if-work-lt16000.false)) (omega (arith, c.if-out-lt256.false))
