-- `callers::all_fit` meets its contract: the queues before the place have tags of the unit. Assumes nothing.
use lib.ListN.{take, drop}
use Rattle.queue.specs.Line.{tags_inside}
use Rattle.callers.specs.Queues.{place_of, count_of}
use Rattle.callers.proofs.EachLaws.{Upto}
use Rattle.callers.proofs.all_fit.Given as goal

abbrev pub invariant-loop-place : goal.invariant-loop-place
invariant-loop-place l = Upto (λ i. tags_inside l.functions (take (count_of l.fn.counts i) (drop (place_of i) l.list))) l.place
