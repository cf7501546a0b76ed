-- `c_interface::jobs::limedarts_play` meets its contract: the counts are narrowed, and the list is played. Assumes nothing.
use mathlib.Core.Path.{refl}
use Rattle.c_interface.proofs.JobLaws.{played_as}
use Rattle.c_interface.proofs.jobs.limedarts_play.Goals as goal

pub returns : goal.returns
returns c =
    record { value = refl; played = played_as c.byte.ensures c.byte-2.ensures c.byte-3.ensures c.play.ensures }
