-- `state_list::states` meets its contract: each way that it ends is a law of the answer and of the words. Assumes nothing.
use mathlib.Core.Path.{sym, ap, ◌∙◌}
use native.Mathlib.Omega.{arith}
use Rattle.std.proofs.Common.{◌++◌, drop}
use Rattle.diagram.proofs.CopyLaws.{front}
use Rattle.diagram.proofs.StatesLaws.{Vector, vector_value, vector_refused, enlist_few, enlist_most, enlist_many, ends_refused, ends_short, ends_many, ends_listed}
use Rattle.unit.proofs.Exits.{handed_on}
use Rattle.state_list.proofs.states.Goals as goal

pub returns-then-out-lt256 : goal.returns-then-out-lt256
returns-then-out-lt256 c =
    let known : Vector c.args.u c.args.tag.0 c.in_ok-word.word = let a = c.args in
    vector_value a.u a.tag.0 c.in_ok-word.word (sym c.vector.ensures ∙ c.in_ok-word.was) in
    let a = c.args in
    ends_short a.u a.tag.0 c.in_ok-word.word a.out.now known c.if-out-lt256.true

pub returns-then-count-eq0 : goal.returns-then-count-eq0
returns-then-count-eq0 c =
    let known : Vector c.args.u c.args.tag.0 c.in_ok-word.word = let a = c.args in
    vector_value a.u a.tag.0 c.in_ok-word.word (sym c.vector.ensures ∙ c.in_ok-word.was) in
    let a = c.args in
    let r = ends_many a.u a.tag.0 c.in_ok-word.word a.out.now known c.if-out-lt256.false
    (enlist_many 768 1 c.in_ok-word.word c.enlist-count.result (omega arith) c.enlist-count.ensures.answer c.if-count-eq0.true) in
    (r.0, ap (λ l. l ++ drop c.enlist-count.result a.out.now) c.copy_from_slice.ensures.after ∙ ap (front c.enlist-count.new.work a.out.now) c.if-count-eq0.true ∙ r.1)

pub overflow_cast-result : goal.overflow_cast-result
overflow_cast-result c =
    omega (arith, enlist_most 768 1 c.in_ok-word.word c.enlist-count.result c.enlist-count.ensures.answer)

pub returns-in_err-word : goal.returns-in_err-word
returns-in_err-word c =
    let a = c.args in
    let r = ends_refused a.u a.tag.0 a.out.now _ (vector_refused a.u a.tag.0 _ (sym c.vector.ensures ∙ c.in_err-word.was)) in
    (handed_on c.from_residual.ensures.1 r.0, r.1)

pub returns : goal.returns
returns c =
    let known : Vector c.args.u c.args.tag.0 c.in_ok-word.word = let a = c.args in
    vector_value a.u a.tag.0 c.in_ok-word.word (sym c.vector.ensures ∙ c.in_ok-word.was) in
    let a = c.args in
    let f = enlist_few 768 1 c.in_ok-word.word c.enlist-count.result c.enlist-count.ensures.answer c.if-count-eq0.false in
    let r = ends_listed a.u a.tag.0 c.in_ok-word.word c.enlist-count.result a.out.now c.enlist-count.new.work known c.if-out-lt256.false f
    (c.enlist-count.ensures.listed (omega (arith, c.if-count-eq0.false))) in
    (r.0, ap (λ l. l ++ drop c.enlist-count.result a.out.now) c.copy_from_slice.ensures.after ∙ r.1)
