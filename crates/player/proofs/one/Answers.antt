-- The player of one call meets its contract: one law for each kind of call. Assumes nothing.
use mathlib.Core.Path.{refl}
use Rattle.player.proofs.TurnLaws.{handed_bytes, refused_bytes, mark_turn, unmark_turn, search_turn, read_turn}
use Rattle.player.proofs.one.Goals as goal

pub returns-then-kind-eq0 : goal.returns-then-kind-eq0
returns-then-kind-eq0 c =
    let a = c.args in
    mark_turn a.u a.kind a.tag a.segment a.column a.work.now c.told.result.number c.told.result.plan c.told.result.unit
    c.mark.result c.if-kind-eq0.true c.mark.ensures c.told.ensures

pub returns-then-kind-eq1 : goal.returns-then-kind-eq1
returns-then-kind-eq1 c =
    let a = c.args in
    unmark_turn a.u a.kind a.tag a.segment a.column a.work.now c.told-then-kind-eq1.result.number c.told-then-kind-eq1.result.plan c.told-then-kind-eq1.result.unit
    c.unmark.result c.if-kind-eq0.false c.if-kind-eq1.true c.unmark.ensures c.told-then-kind-eq1.ensures

pub returns-then-kind-eq2 : goal.returns-then-kind-eq2
returns-then-kind-eq2 c =
    let a = c.args in
    search_turn a.u a.kind a.tag a.segment a.column a.work.now c.told-then-kind-eq2.result.number c.told-then-kind-eq2.result.plan c.told-then-kind-eq2.result.unit
    c.search.result c.search.new.work c.if-kind-eq0.false c.if-kind-eq1.false c.if-kind-eq2.true c.search.ensures c.told-then-kind-eq2.ensures

pub returns-in-Ok : goal.returns-in-Ok
returns-in-Ok c =
    read_turn _ _ _ _ _ _ _ _ _ _ c.if-kind-eq0.false c.if-kind-eq1.false c.if-kind-eq2.false c.in-Ok.ensures (handed_bytes _) refl

pub returns-in-Err : goal.returns-in-Err
returns-in-Err c =
    read_turn _ _ _ _ _ _ _ _ _ _ c.if-kind-eq0.false c.if-kind-eq1.false c.if-kind-eq2.false c.in-Err.ensures (refused_bytes _ c.from.ensures c.no_plan.ensures) refl
