-- `unit_writer::write_offsets` meets its contract. The loop's invariant: the offsets of the tables passed stand in front. Assumes nothing.
use Prim.Native.Nat.{◌-◌, ◌*◌}
use mathlib.Core.Path.{refl, ap, ◌∙◌}
use native.Mathlib.Omega.{arith}
use borrow.Rule.Slice.PartMut.{mid_of}
use lib.ListN.{length}
use Rattle.unit_file.specs.File.{bytes16, offset_bytes}
use Rattle.unit_file.specs.InnerWrite.{in_front}
use Rattle.unit_file.proofs.FrontLaws.{joined_start, joined_more, joined_end}
use Rattle.unit_file.proofs.WriteLaws.{offset_at, start_offset}
use Rattle.unit_writer.proofs.write_offsets.Goals as goal

pub loop-before-init : goal.loop-before-init
loop-before-init c = let a = c.args in joined_start 0 (offset_at a.functions a.segments) a.out.now

pub loop-before-preserved : goal.loop-before-preserved
loop-before-preserved c =
    let a = c.args in
    let at = 2 * c.loop-before.before in
    let e = c.put_half.ensures ∙ ap (λ w. in_front (bytes16 w) (mid_of at (length c.loop-before.out - at) c.loop-before.out))
    (c.table_start-offset.ensures ∙ start_offset a.functions a.segments c.loop-before.before) in
    joined_more 0 2 (offset_at a.functions a.segments) a.out.now c.loop-before.before at c.loop-before.out c.put_half.new.out (λ i. refl)
    (omega arith) (omega arith) c.loop-before.invariant e

pub returns : goal.returns
unfolding offset_bytes
returns c =
    let a = c.args in
    joined_end 0 (offset_at a.functions a.segments) a.out.now c.loop-before.before a.functions c.loop-before.out (omega arith) c.loop-before.invariant
