-- `questions::ask` meets its contract: the line is put together first, and put whole. Assumes nothing.
use mathlib.Core.Path.{sym, ap, ◌∙◌}
use native.Mathlib.Nat.{zero-add}
use lib.ListN.{length}
use Rattle.text.specs.Text.{put_in, put_end}
use Rattle.questions.proofs.ReplyLaws.{line_front}
use Rattle.questions.proofs.ask.Goals as goal

pub slice_bounds-put-end : goal.slice_bounds-put-end
slice_bounds-put-end c = c.put_reply-end.ensures.next ∙ zero-add _ ∙ ap length (sym (line_front c.put_reply-end.ensures))

pub returns : goal.returns
returns c =
    record { value = c.put.ensures.value ∙ ap (put_end _ _) (line_front c.put_reply-end.ensures); out_after = c.put.ensures.out_after ∙ ap (put_in _ _) (line_front c.put_reply-end.ensures) }
