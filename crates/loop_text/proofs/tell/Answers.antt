-- `loop_text::tell` meets its contract: by what the search hands out. Assumes nothing.
use mathlib.Core.Path.{refl}
use Rattle.loop_text.proofs.ToldLaws.{count_few, told_found, told_refused}
use Rattle.loop_text.proofs.tell.Goals as goal

pub put_loop-requires : goal.put_loop-requires
put_loop-requires c = let p = c.in-Ok.ensures in count_few _ _ _ (p.found _ refl)

pub returns-in-Err : goal.returns-in-Err
returns-in-Err c = told_refused _ _ _ _ refl _ _ _ c.in-Err.ensures c.put_answer.ensures

pub returns-in-Ok : goal.returns-in-Ok
returns-in-Ok c = told_found _ _ _ _ refl _ _ _ c.in-Ok.ensures c.put_loop.ensures
