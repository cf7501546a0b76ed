-- `cycles::greedy` meets its contract: each way that it ends is a law of the answer, the bytes and the working words. Assumes nothing.
use mathlib.Core.Path.{sym, ◌∙◌}
use native.Mathlib.Omega.{arith}
use Rattle.diagram.proofs.StatesLaws.{Vector, vector_value, vector_refused, enlist_few, enlist_many}
use Rattle.cycles.proofs.EndLaws.{listed_walkable, walked_copyable, ends_refused, ends_short_work, ends_short_out, ends_many, ends_cycle}
use Rattle.unit.proofs.Exits.{handed_on}
use Rattle.cycles.proofs.greedy.Goals as goal

pub returns-then-work-lt16000 : goal.returns-then-work-lt16000
returns-then-work-lt16000 c =
    let known : Vector c.args.u c.args.tag.0 c.in_ok-word.word = let a = c.args in
    vector_value a.u a.tag.0 c.in_ok-word.word (sym c.vector.ensures ∙ c.in_ok-word.was) in
    let a = c.args in
    ends_short_work a.u a.tag.0 a.work.now a.out.now _ known (omega (arith, c.if-work-lt16000.true))

pub returns-then-out-lt256 : goal.returns-then-out-lt256
returns-then-out-lt256 c =
    let known : Vector c.args.u c.args.tag.0 c.in_ok-word.word = let a = c.args in
    vector_value a.u a.tag.0 c.in_ok-word.word (sym c.vector.ensures ∙ c.in_ok-word.was) in
    let a = c.args in
    ends_short_out a.u a.tag.0 a.work.now a.out.now _ known (omega (arith, c.if-work-lt16000.false)) (omega (arith, c.if-out-lt256.true))

pub returns-then-states-eq0 : goal.returns-then-states-eq0
returns-then-states-eq0 c =
    let known : Vector c.args.u c.args.tag.0 c.in_ok-word.word = let a = c.args in
    vector_value a.u a.tag.0 c.in_ok-word.word (sym c.vector.ensures ∙ c.in_ok-word.was) in
    let a = c.args in
    ends_many a.u a.tag.0 a.work.now a.out.now _ known (omega (arith, c.if-work-lt16000.false)) (omega (arith, c.if-out-lt256.false)) _ _ c.enlist-states.ensures
    (enlist_many _ 1 _ c.enlist-states.result (omega (arith, c.if-work-lt16000.false)) c.enlist-states.ensures.answer c.if-states-eq0.true)

pub walk-cycle-requires : goal.walk-cycle-requires
walk-cycle-requires c =
    listed_walkable _ _ _ _ (omega (arith, c.if-work-lt16000.false)) c.if-states-eq0.false c.enlist-states.ensures

pub copy_latencies-sum-requires : goal.copy_latencies-sum-requires
copy_latencies-sum-requires c =
    walked_copyable _ _ _ _ _ (omega (arith, c.enlist-states.ensures.size, c.if-work-lt16000.false)) (omega (arith, c.if-out-lt256.false)) c.walk-cycle.ensures

pub overflow_cast-latencies : goal.overflow_cast-latencies
overflow_cast-latencies c =
    omega (arith, c.walk-cycle.ensures.few)

pub returns-in_err-word : goal.returns-in_err-word
returns-in_err-word c =
    let a = c.args in
    let r = ends_refused a.u a.tag.0 a.work.now a.out.now _ (vector_refused a.u a.tag.0 _ (sym c.vector.ensures ∙ c.in_err-word.was)) in
    (handed_on c.from_residual.ensures.1 r.0, r.1, r.2)

pub returns : goal.returns
returns c =
    let known : Vector c.args.u c.args.tag.0 c.in_ok-word.word = let a = c.args in
    vector_value a.u a.tag.0 c.in_ok-word.word (sym c.vector.ensures ∙ c.in_ok-word.was) in
    let a = c.args in
    ends_cycle a.u a.tag.0 a.work.now a.out.now _ known (omega (arith, c.if-work-lt16000.false)) (omega (arith, c.if-out-lt256.false)) _ _ c.enlist-states.ensures
    (enlist_few _ 1 _ c.enlist-states.result c.enlist-states.ensures.answer c.if-states-eq0.false)
    _ c.walk-cycle.result _ _ c.walk-cycle.ensures c.copy_latencies-sum.ensures
