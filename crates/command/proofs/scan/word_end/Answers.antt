use Rattle.std.proofs.Common.{◌≡◌, ◌∙◌, sym, length, arith}
use Rattle.command.proofs.WordLaws.{word_more, word_end_none, word_end_blank}
use Rattle.command.proofs.scan.word_end.Goals as goal

pub returns-then-is_blank : goal.returns-then-is_blank
returns-then-is_blank c = word_end_blank _ _ _ (omega arith) (sym c.is_blank.ensures ∙ c.if-is_blank.true) c.loop-at.invariant

pub loop-at-preserved : goal.loop-at-preserved
loop-at-preserved c = word_more _ _ _ (omega arith) (sym c.is_blank.ensures ∙ c.if-is_blank.false) c.loop-at.invariant

pub returns : goal.returns
returns c =
    let e : c.loop-at.at ≡ length c.args.text.now = omega arith in
    word_end_none _ _ _ (omega arith) (rw e at c.loop-at.invariant)
