-- The writer of a reply meets its contract: the plan's bytes stand behind the first six. Assumes nothing.
use mathlib.Core.Path.{◌≡◌, sym, ◌∙◌}
use native.Mathlib.Omega.{arith}
use borrow.Author.Rules.{rules}
use lib.ListN.{length}
use Rattle.std.proofs.lemmas.Slice.{put_mid-paste}
use Rattle.player.proofs.ReplyLaws.{headed, headed_length, written_end}
use Rattle.player.proofs.put_reply.Goals as goal

pub returns : goal.returns
returns c =
    let a = c.args in
    let size : length a.plan.latencies ≡ 256 = search rules in
    let n : length (headed a.out.now a.number a.plan) ≡ 262 = headed_length a.out.now a.number a.plan ∙ c.requires in
    put_mid-paste 6 _ (headed a.out.now a.number a.plan) _ a.plan.latencies 256 c.copy_from_slice.ensures.after (omega arith) (sym size)
    ∙ written_end a.out.now a.number a.plan c.requires size
