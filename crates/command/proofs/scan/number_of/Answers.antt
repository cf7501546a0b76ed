use Rattle.std.proofs.Common.{arith}
use Rattle.command.proofs.NumberLaws.{read_start, read_more, read_end, other_empty, other_below, other_above, other_large}
use Rattle.command.proofs.scan.number_of.Goals as goal

pub returns-then-word-eq0 : goal.returns-then-word-eq0
returns-then-word-eq0 c = other_empty _ c.if-word-eq0.true

pub loop-byte-init : goal.loop-byte-init
loop-byte-init c = read_start _

pub returns-then-byte-lt48 : goal.returns-then-byte-lt48
returns-then-byte-lt48 c = other_below c.loop-byte.invariant (omega arith) c.if-byte-lt48.true

pub returns-then-byte-gt57 : goal.returns-then-byte-gt57
returns-then-byte-gt57 c = other_above c.loop-byte.invariant (omega arith) c.if-byte-gt57.true

pub returns-then-number-gt4294967295 : goal.returns-then-number-gt4294967295
returns-then-number-gt4294967295 c = other_large c.loop-byte.invariant (omega arith) c.if-number-gt4294967295.true

pub loop-byte-preserved : goal.loop-byte-preserved
loop-byte-preserved c = read_more c.loop-byte.invariant (omega arith) c.if-byte-lt48.false c.if-byte-gt57.false c.if-number-gt4294967295.false

pub returns : goal.returns
returns c = read_end c.loop-byte.invariant (omega arith) (omega arith)
