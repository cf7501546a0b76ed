use Rattle.std.proofs.Common.{◌≡◌, ◌-◌, ◌∙◌, ap, refl, arith, rules, not}
use borrow.Author.Tests.{eq-eqb, ne_eqb}
use Rattle.words.specs.Bits.{set_bit}
use Rattle.words.specs.Below.{word_below}
use Rattle.collision.specs.Inner.{nonzero}
use Rattle.collision.proofs.RowLaws.{row_before, row_one, row_zero, row_end}
use Rattle.collision.proofs.row_of.Goals as goal
use Rattle.collision.proofs.row_of.Goals.{then-common-latency-ne0, else-common-latency-ne0}

pub loop-latency-init : goal.loop-latency-init
unfolding word_below
loop-latency-init c = refl

pub loop-latency-preserved : goal.loop-latency-preserved
loop-latency-preserved c =
    let f = nonzero c.common_segments-common.result in
    elim c.if-common-latency-ne0.branch [
      | then-common-latency-ne0 w ↦ w.row-is ∙ w.set-row.ensures ∙ ap (λ v. set_bit v (c.loop-latency.latency - 1)) c.loop-latency.invariant
          ∙ row_one f c.loop-latency.latency (omega arith) (omega arith) (ap not (ne_eqb _ 0 w.if-common-latency-ne0.true))
      | else-common-latency-ne0 w ↦ w.row-is ∙ c.loop-latency.invariant ∙ row_zero f c.loop-latency.latency (omega arith) (ap not (eq-eqb _ 0 w.if-common-latency-ne0.false))
    ]

pub returns : goal.returns
returns c =
    let a = c.args in
    let e : c.loop-latency.latency ≡ 32 = omega arith in
    c.loop-latency.invariant ∙ ap (row_before (nonzero c.common_segments-common.result)) e
    ∙ row_end a.later a.earlier (nonzero c.common_segments-common.result) (search rules) c.common_segments-common.ensures
