-- `command_text::put_expected` meets its contract. Assumes nothing.
use native.Mathlib.Omega.{arith}
use Rattle.text.proofs.WroteLaws.{wrote_one}
use Rattle.command_text.proofs.put_expected.Goals as goal

pub returns-in-TooLong : goal.returns-in-TooLong
returns-in-TooLong c = rw c.in-TooLong.is (wrote_one (c.put.ensures.value, c.put.ensures.out_after) (omega (arith, c.requires)))

pub returns-in-NoCommand : goal.returns-in-NoCommand
returns-in-NoCommand c = rw c.in-NoCommand.is (wrote_one (c.put-in-NoCommand.ensures.value, c.put-in-NoCommand.ensures.out_after) (omega (arith, c.requires)))

pub returns-in-Usage : goal.returns-in-Usage
returns-in-Usage c = rw c.in-Usage.is c.put_usage.ensures
