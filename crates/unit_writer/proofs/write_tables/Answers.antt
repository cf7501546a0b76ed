-- `unit_writer::write_tables` meets its contract. The loop's invariant: the tables of the functions passed stand from their offsets on. Assumes nothing.
use Prim.Native.Nat.{◌-◌, ◌+◌, ◌*◌}
use mathlib.Core.Path.{ap, ◌∙◌}
use native.Mathlib.Omega.{arith}
use Rattle.unit.specs.Unit.{marked}
use borrow.Rule.Slice.PartMut.{mid_of}
use lib.ListN.{length}
use Rattle.unit_file.specs.InnerWrite.{in_front, columns_bytes, tables_bytes}
use Rattle.unit_file.proofs.FrontLaws.{joined_start, joined_more, joined_end}
use Rattle.unit_file.proofs.WriteLaws.{table_at, table_room, columns_table}
use Rattle.unit_file.proofs.FileLaws.{table_size}
use Rattle.unit_writer.proofs.write_tables.Goals as goal

pub loop-before-init : goal.loop-before-init
loop-before-init c = let a = c.args in joined_start (4 + 2 * a.u.functions) (table_at (marked a.u) a.u.segments) a.out.now

pub loop-before-preserved : goal.loop-before-preserved
loop-before-preserved c =
    let a = c.args in
    let room_left = table_room a.u.functions a.u.segments c.loop-before.before (length a.out.now) c.requires.segments_in_bounds (omega arith) in
    let e = c.write_table.ensures ∙ ap (λ w. in_front w (mid_of c.table_start-offset.result (length c.loop-before.out - c.table_start-offset.result) c.loop-before.out))
    (ap (λ k. columns_bytes k a.u.segments) c.columns_of-columns.ensures
    ∙ columns_table a.u (c.loop-before.before + 1) a.u.segments (omega arith) (omega (arith, c.requires.counts.functions)) c.requires.counts.segments) in
    joined_more (4 + 2 * a.u.functions) (4 * a.u.segments) (table_at (marked a.u) a.u.segments) a.out.now c.loop-before.before c.table_start-offset.result c.loop-before.out
    c.write_table.new.out (λ i. table_size (marked a.u) a.u.segments (i + 1)) room_left c.table_start-offset.ensures c.loop-before.invariant e

pub returns : goal.returns
unfolding tables_bytes
returns c =
    let a = c.args in
    joined_end (4 + 2 * a.u.functions) (table_at (marked a.u) a.u.segments) a.out.now c.loop-before.before a.u.functions c.loop-before.out
    (omega arith) c.loop-before.invariant
