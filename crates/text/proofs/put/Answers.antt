-- `text::put` meets its contract. Assumes nothing.
use mathlib.Core.Path.{◌≡◌, refl, ap, ◌∙◌}
use Prim.Native.Nat.{◌+◌}
use native.Mathlib.Omega.{arith}
use lib.ListN.{length, set, get_or}
use Rattle.text.proofs.PutLaws.{put_left_out}
use Rattle.text.proofs.CopyLaws.{copied, copied_start, copied_length, copied_more, copied_end}
use Rattle.text.proofs.WroteLaws.{wrote_is_put}
use Rattle.text.proofs.put.Goals as goal

pub returns-then-out-words : goal.returns-then-out-words
returns-then-out-words c =
    let a = c.args in
    let facts = put_left_out a.out.now a.at a.words.now (omega arith) in
    record { value = facts.0; out_after = facts.1 }

pub returns-then-out-words-2 : goal.returns-then-out-words-2
returns-then-out-words-2 c =
    let a = c.args in
    let facts = put_left_out a.out.now a.at a.words.now (omega arith) in
    record { value = facts.0; out_after = facts.1 }

pub loop-i-init : goal.loop-i-init
loop-i-init c = let a = c.args in copied_start a.out.now a.at a.words.now

pub bounds-out-at : goal.bounds-out-at
bounds-out-at c =
    let a = c.args in
    let kept : length c.loop-i.out ≡ length a.out.now =
    ap length c.loop-i.invariant ∙ copied_length a.out.now a.at a.words.now (omega arith) c.loop-i.i (omega arith) in
    omega (arith, kept)

pub loop-i-preserved : goal.loop-i-preserved
loop-i-preserved c =
    let a = c.args in
    ap (λ x. set x (a.at + c.loop-i.i) (get_or a.words.now c.loop-i.i 0)) c.loop-i.invariant
    ∙ copied_more a.out.now a.at a.words.now (omega arith) c.loop-i.i (omega arith)

pub returns : goal.returns
returns c =
    let a = c.args in
    let e : c.loop-i.i ≡ length a.words.now = omega arith in
    let copied = c.loop-i.invariant ∙ ap (copied a.out.now a.at a.words.now) e ∙ copied_end a.out.now a.at a.words.now in
    let facts = wrote_is_put record { bytes = copied; next = refl; room = omega arith } in
    record { value = facts.0; out_after = facts.1 }
