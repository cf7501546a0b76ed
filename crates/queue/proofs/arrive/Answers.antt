-- `queue::arrive` meets its contract: its tests say what is answered and left. Assumes nothing.
use mathlib.Core.Path.{refl, sym, ◌∙◌}
use Rattle.queue.specs.Calls.{arrival_answer, arrival_of, arrival_list}
use Rattle.queue.proofs.arrive.Goals as goal

pub returns-in-Err : goal.returns-in-Err
unfolding arrival_answer arrival_of arrival_list
returns-in-Err c = rw (sym c.check_arrival.ensures ∙ c.in-Err.is) (refl, refl)

pub returns : goal.returns
unfolding arrival_answer arrival_of arrival_list
returns c = rw (sym c.check_arrival.ensures ∙ c.in_default.is) (refl, refl)
