-- `record_text::bit_text` meets its contract. Assumes nothing.
use native.Mathlib.Omega.{arith}
use Prim.Native.Nat.{◌/◌}
use mathlib.Core.Path.{sym, ◌∙◌}
use Rattle.record_text.proofs.LineLaws.{bit_one, bit_none}
use Rattle.record_text.proofs.bit_text.Goals as goal

pub overflow_cast-ring : goal.overflow_cast-ring
overflow_cast-ring c = let i = c.args.i in omega (arith, c.shared_slice_known-2-1.given (i / 8))

pub returns-then-test : goal.returns-then-test
returns-then-test c = let a = c.args in bit_one a.ring.now a.i (sym c.test.ensures ∙ c.if-test.true)

pub returns : goal.returns
returns c = let a = c.args in bit_none a.ring.now a.i (sym c.test.ensures ∙ c.if-test.false)
