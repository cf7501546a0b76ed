-- `listing::hand_out` meets its contract: the area has the room or has it not. Assumes nothing.
use native.Mathlib.Omega.{arith}
use Rattle.listing.proofs.AreaLaws.{area_short, area_written}
use Rattle.listing.proofs.hand_out.Goals as goal

pub returns-then-out-words : goal.returns-then-out-words
returns-then-out-words c = area_short _ _ (omega (arith, c.if-out-words.true))

pub returns : goal.returns
returns c = area_written _ _ (omega (arith, c.if-out-words.false)) c.put.ensures.out_after
