-- `mean_cycle::least_mean_cycle` meets its contract: each answer is a law of Answers. Assumes nothing.
use mathlib.Core.Path.{◌∙◌}
use Rattle.mean_cycle.proofs.AnswerLaws.{searched_short, searched_wide, searched_many, listing_counted, searched_found}
use Rattle.mean_cycle.proofs.least_mean_cycle.Goals as goal

pub returns-then-work-lt2048 : goal.returns-then-work-lt2048
returns-then-work-lt2048 c = searched_short _ _ c.if-work-lt2048.true

pub returns-then-vector-ge2147483648 : goal.returns-then-vector-ge2147483648
returns-then-vector-ge2147483648 c = searched_wide _ _ c.if-vector-ge2147483648.true

pub shape_of-work-then-nodes-eq0 : goal.shape_of-work-then-nodes-eq0
shape_of-work-then-nodes-eq0 c = c.enlist-nodes.ensures.size

pub returns-then-nodes-eq0 : goal.returns-then-nodes-eq0
returns-then-nodes-eq0 c =
    searched_many _ _ _ _ c.if-work-lt2048.false c.if-vector-ge2147483648.false c.enlist-nodes.ensures c.if-nodes-eq0.true

pub search_listed-requires : goal.search_listed-requires
search_listed-requires c =
    listing_counted _ _ _ _ c.if-work-lt2048.false c.if-vector-ge2147483648.false c.enlist-nodes.ensures c.if-nodes-eq0.false _ c.width_of.ensures

pub shape_of-work : goal.shape_of-work
shape_of-work c =
    c.search_listed.ensures.frame.size ∙ c.enlist-nodes.ensures.size

pub returns : goal.returns
returns c =
    searched_found _ _ _ _ c.if-work-lt2048.false c.if-vector-ge2147483648.false c.enlist-nodes.ensures c.if-nodes-eq0.false _ c.width_of.ensures
    _ _ c.search_listed.ensures
