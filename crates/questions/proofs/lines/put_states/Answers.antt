-- `questions::lines::put_states` meets its contract: the states stand in front of the lent words. Assumes nothing.
use mathlib.Core.Path.{refl}
use native.Mathlib.Omega.{arith}
use lib.ListN.{replicate}
use Rattle.unit.specs.Unit.{marked}
use Rattle.text.proofs.RowLaws.{wrote_as}
use Rattle.diagram.specs.Answers.{states_of}
use Rattle.questions.proofs.StatesLaws.{Front, front_part, states_front, states_refused, states_shown}
use Rattle.questions.proofs.lines.put_states.Goals as goal

pub slice_bounds-list-end : goal.slice_bounds-list-end
slice_bounds-list-end c =
    let stands : Front (states_of 1 (marked c.args.u) c.args.tag.0) c.states-asked.new.out c.in-Ok.number = states_front _ _ (replicate 256 0) refl c.states-asked.ensures.0 c.states-asked.ensures.1 c.in-Ok.is in
    stands.room

pub slice_bounds-put_list-end : goal.slice_bounds-put_list-end
slice_bounds-put_list-end c =
    let stands : Front (states_of 1 (marked c.args.u) c.args.tag.0) c.states-asked.new.out c.in-Ok.number = states_front _ _ (replicate 256 0) refl c.states-asked.ensures.0 c.states-asked.ensures.1 c.in-Ok.is in
    front_part stands

pub put_list-requires : goal.put_list-requires
put_list-requires c =
    let stands : Front (states_of 1 (marked c.args.u) c.args.tag.0) c.states-asked.new.out c.in-Ok.number = states_front _ _ (replicate 256 0) refl c.states-asked.ensures.0 c.states-asked.ensures.1 c.in-Ok.is in
    let s = stands in
    (omega (arith, s.few, s.counts, front_part s), c.requires)

pub returns-in-Err : goal.returns-in-Err
returns-in-Err c =
    wrote_as c.put_refusal.ensures (states_refused _ _ c.states-asked.ensures.0 c.in-Err.is)

pub returns-in-Ok : goal.returns-in-Ok
returns-in-Ok c =
    let stands : Front (states_of 1 (marked c.args.u) c.args.tag.0) c.states-asked.new.out c.in-Ok.number = states_front _ _ (replicate 256 0) refl c.states-asked.ensures.0 c.states-asked.ensures.1 c.in-Ok.is in
    wrote_as c.put_list.ensures (states_shown _ _ c.states-asked.ensures.0 c.in-Ok.is stands.front)
