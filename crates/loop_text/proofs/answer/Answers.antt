-- `loop_text::answer` meets its contract. Assumes nothing.
use lib.ListN.{replicate}
use Rattle.command.specs.Lines.{tags_in}
use Rattle.command.proofs.FrontLaws.{front_length}
use Rattle.loop_text.proofs.ToldLaws.{told_line}
use Rattle.loop_text.proofs.answer.Goals as goal

pub slice_bounds-tell-end : goal.slice_bounds-tell-end
slice_bounds-tell-end c =
    front_length (tags_in c.args.line.now) (replicate 9 0) c.tags-count.ensures.value c.tags-count.ensures.list_after

pub returns : goal.returns
returns c =
    told_line _ _ _ _ _ _ _ c.tags-count.ensures.value c.tags-count.ensures.list_after c.tell.ensures
