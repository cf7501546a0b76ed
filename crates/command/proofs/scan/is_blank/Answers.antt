-- `command::scan::is_blank` meets its contract. Assumes nothing.
use borrow.Author.Tests.{eq-eqb, ne_eqb}
use Rattle.command.proofs.scan.is_blank.Goals as goal

pub returns-then-byte-eq32 : goal.returns-then-byte-eq32
returns-then-byte-eq32 c = rw (eq-eqb c.args.byte 32 c.if-byte-eq32.true)

pub returns-else-byte-eq32 : goal.returns-else-byte-eq32
returns-else-byte-eq32 c = rw (ne_eqb c.args.byte 32 c.if-byte-eq32.false)
