-- `listing::function::put_best` meets its contract: with the lent words the search is not refused, and the plan holds the cycle. Assumes nothing.
use mathlib.Core.Path.{refl}
use native.Mathlib.Omega.{arith}
use lib.ListN.{replicate}
use Rattle.text.specs.Text.{ascii}
use Rattle.planner.specs.Plans.{Found}
use Rattle.listing.proofs.StandingLaws.{standing_part, standing_line, search_finds, search_stands}
use Rattle.listing.proofs.function.put_best.Goals as goal

pub slice_bounds-latencies-end : goal.slice_bounds-latencies-end
slice_bounds-latencies-end c =
    let finds : Found c.args.u c.args.tag.0 c.search-found.result.unit = search_finds (replicate 16000 0) refl c.requires.0 c.search-found.ensures in
    (search_stands finds).room

pub slice_bounds-put_cycle-end-2 : goal.slice_bounds-put_cycle-end-2
slice_bounds-put_cycle-end-2 c =
    let finds : Found c.args.u c.args.tag.0 c.search-found.result.unit = search_finds (replicate 16000 0) refl c.requires.0 c.search-found.ensures in
    standing_part (search_stands finds)

pub put_cycle-requires : goal.put_cycle-requires
put_cycle-requires c =
    let finds : Found c.args.u c.args.tag.0 c.search-found.result.unit = search_finds (replicate 16000 0) refl c.requires.0 c.search-found.ensures in
    let s = search_stands finds in
    omega (arith, s.few, s.counts, standing_part s, c.requires.1)

pub returns : goal.returns
returns c =
    let finds : Found c.args.u c.args.tag.0 c.search-found.result.unit = search_finds (replicate 16000 0) refl c.requires.0 c.search-found.ensures in
    let f = finds in
    record {
      cycle = f.cycle;
      best = λ few. f.best;
      put = standing_line (ascii "best") 1044 (search_stands f) (omega arith) c.put_cycle.ensures;
    }
