-- `plan_record::ring_matches` meets its contract. Assumes nothing.
use mathlib.Core.Path.{◌∙◌, sym}
use native.Mathlib.Omega.{arith}
use Rattle.plan_record.specs.Record.{ring_byte}
use Rattle.plan_record.proofs.ListLaws.{all_same, one_differs}
use Rattle.plan_record.proofs.ring_matches.Goals as goal

pub returns-then-turned-byte : goal.returns-then-turned-byte
returns-then-turned-byte c =
    let a = c.args in
    sym (one_differs a.ring.now (ring_byte a.list.now) c.loop-j.j (omega arith) (λ e. c.if-turned-byte.true (c.ring_byte-turned.ensures.byte ∙ e)))

pub returns : goal.returns
returns c =
    let a = c.args in
    sym (all_same a.ring.now (ring_byte a.list.now) (λ k h. c.loop-j.invariant.1 k (omega (arith, c.loop-j-test.false))))
