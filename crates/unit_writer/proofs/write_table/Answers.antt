-- `unit_writer::write_table` meets its contract. The loop's invariant: the words of the segments passed stand in front. Assumes nothing.
use Prim.Native.Nat.{◌-◌, ◌*◌}
use mathlib.Core.Path.{refl, ap, ◌∙◌}
use native.Mathlib.Omega.{arith}
use borrow.Rule.Slice.PartMut.{mid_of}
use lib.ListN.{length}
use Rattle.unit_file.specs.File.{bytes32}
use Rattle.unit_file.specs.InnerWrite.{in_front, columns_bytes}
use Rattle.unit_file.proofs.FrontLaws.{joined_start, joined_more, joined_end}
use Rattle.unit_file.proofs.WriteLaws.{segment_bytes}
use Rattle.unit_writer.proofs.write_table.Goals as goal

pub loop-segment-init : goal.loop-segment-init
loop-segment-init c = joined_start 0 (segment_bytes c.args.columns) c.args.out.now

pub loop-segment-preserved : goal.loop-segment-preserved
loop-segment-preserved c =
    let a = c.args in
    let at = 4 * c.loop-segment.segment in
    let e = c.put_word.ensures ∙ ap (λ w. in_front (bytes32 w) (mid_of at (length c.loop-segment.out - at) c.loop-segment.out)) c.segment_word-word.ensures in
    joined_more 0 4 (segment_bytes a.columns) a.out.now c.loop-segment.segment at c.loop-segment.out c.put_word.new.out (λ i. refl)
    (omega arith) (omega arith) c.loop-segment.invariant e

pub returns : goal.returns
unfolding columns_bytes
returns c =
    let a = c.args in
    joined_end 0 (segment_bytes a.columns) a.out.now c.loop-segment.segment a.segments c.loop-segment.out (omega arith) c.loop-segment.invariant
