-- `listing::function::put_states` meets its contract: the count tells whether the states are few. Assumes nothing.
use native.Mathlib.Omega.{arith}
use Rattle.text.specs.Text.{ascii}
use Rattle.listing.specs.Inner.{Small}
use Rattle.text.proofs.BoundedLaws.{put_one}
use Rattle.listing.proofs.AskedLaws.{Counted, states_counted, states_refused}
use Rattle.listing.proofs.FunctionLaws.{number_line_lem, lines_many, lines_few}
use Rattle.listing.proofs.function.put_states.Goals as goal

pub returns-in_default : goal.returns-in_default
returns-in_default c =
    lines_many (states_refused c.requires.0 c.states-counted.ensures.0 c.in_default.is)
    (put_one 10 (ascii "refused 7\n") (c.put.ensures.value, c.put.ensures.out_after) (omega arith) (omega (arith, c.requires.1)))

pub put_greedy-after_greedy-requires : goal.put_greedy-after_greedy-requires
put_greedy-after_greedy-requires c =
    let counted : Counted c.args.u c.args.tag.0 c.in-Ok.count = states_counted c.requires.0 c.states-counted.ensures.0 c.in-Ok.is in
    let small : Small c.args.u c.args.tag.0 = record { function = c.requires.0; few = counted.few } in
    (small, omega arith)

pub put_best-requires : goal.put_best-requires
put_best-requires c =
    let counted : Counted c.args.u c.args.tag.0 c.in-Ok.count = states_counted c.requires.0 c.states-counted.ensures.0 c.in-Ok.is in
    let small : Small c.args.u c.args.tag.0 = record { function = c.requires.0; few = counted.few } in
    (small, omega arith)

pub returns : goal.returns
returns c =
    let counted : Counted c.args.u c.args.tag.0 c.in-Ok.count = states_counted c.requires.0 c.states-counted.ensures.0 c.in-Ok.is in
    let n = counted in
    lines_few n.few (number_line_lem (ascii "states ") n.states c.put_line-after_states.ensures) c.put_greedy-after_greedy.ensures c.put_best.ensures
