-- `record_text::write_bits` meets its contract. Assumes nothing.
use Prim.Native.Nat.{ℕ, ◌+◌}
use mathlib.Core.Path.{◌≡◌, ◌∙◌, ap, ap₂}
use mathlib.Core.List.{List}
use native.Mathlib.Omega.{arith}
use lib.ListN.{set}
use Rattle.words.specs.Below.{list_below}
use Rattle.text.specs.Text.{placed}
use Rattle.plan_record.proofs.ListLaws.{list_none, list_more}
use Rattle.record_text.specs.Lines.{bit_text}
use Rattle.record_text.proofs.LineLaws.{bits_wrote}
use Rattle.record_text.proofs.write_bits.Goals as goal

pub loop-i-init : goal.loop-i-init
loop-i-init c = list_none c.args.line.now c.args.at _

pub loop-i-preserved : goal.loop-i-preserved
loop-i-preserved c =
    let a = c.args in
    ap₂ (λ (x : List ℕ) (y : ℕ). set x (a.at + c.loop-i.i) y) c.loop-i.invariant c.bit_text.ensures
    ∙ list_more a.line.now a.at c.loop-i.i (bit_text a.ring.now) (omega arith)

pub returns : goal.returns
returns c =
    let a = c.args in
    let e : c.loop-i.i ≡ a.count = omega arith in
    bits_wrote _ _ _ _ _ c.requires.1 (c.loop-i.invariant ∙ ap (λ k. placed a.line.now a.at (list_below k (bit_text a.ring.now))) e)
