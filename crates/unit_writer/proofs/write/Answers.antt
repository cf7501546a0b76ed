-- `unit_writer::write` meets its contract: each way that it ends is a law of the answer and of the bytes. Assumes nothing.
use mathlib.Core.Path.{◌≡◌}
use mathlib.Core.Bool.{true}
use Prim.Native.Nat.{◌-◌}
use native.Mathlib.Omega.{arith}
use borrow.Rule.Slice.PartMut.{put_mid, mid_len}
use lib.ListN.{length}
use Rattle.words.proofs.Tests.{on, off}
use Rattle.unit.specs.Unit.{sound_of}
use Rattle.unit_file.specs.InnerWrite.{Counts}
use Rattle.unit_file.proofs.FileLaws.{tables_small}
use Rattle.unit_file.proofs.WriteLaws.{written, sound_counts, ends_unsound, ends_short, ends_written}
use borrow.Author.Rules.{rules}
use Rattle.unit_writer.proofs.write.Goals as goal

pub returns-then-not-sound : goal.returns-then-not-sound
returns-then-not-sound c =
    let a = c.args in
    let facts = ends_unsound a.u a.out.now (off c.if-not-sound.true-raw c.sound.ensures) in
    record { value = facts.0; out_after = facts.1 }

pub table_start-size-requires : goal.table_start-size-requires
table_start-size-requires c =
    let passed : sound_of c.args.u ≡ true = on c.if-not-sound.false-raw c.sound.ensures in
    let counts : Counts c.args.u.functions c.args.u.segments = sound_counts c.args.u passed in
    record { counts = counts; before_bound = counts.functions }

pub returns-then-out-size : goal.returns-then-out-size
returns-then-out-size c =
    let passed : sound_of c.args.u ≡ true = on c.if-not-sound.false-raw c.sound.ensures in
    let a = c.args in
    let facts = ends_short a.u a.out.now passed (omega (arith, c.table_start-size.ensures, c.if-out-size.true)) in
    record { value = facts.0; out_after = facts.1 }

pub write_offsets-requires : goal.write_offsets-requires
write_offsets-requires c =
    let passed : sound_of c.args.u ≡ true = on c.if-not-sound.false-raw c.sound.ensures in
    let counts : Counts c.args.u.functions c.args.u.segments = sound_counts c.args.u passed in
    let n = mid_len 4 (length c.write_header.new.out) c.write_header.new.out (omega arith) in
    record { counts = counts; functions_in_bounds = omega (arith, n, c.write_header.auto.out, c.if-out-size.false, c.table_start-size.ensures) }

pub write_tables-requires : goal.write_tables-requires
write_tables-requires c =
    let passed : sound_of c.args.u ≡ true = on c.if-not-sound.false-raw c.sound.ensures in
    let counts : Counts c.args.u.functions c.args.u.segments = sound_counts c.args.u passed in
    let n : length (put_mid 4 (length c.write_header.new.out - 4) c.write_header.new.out c.write_offsets.new.out) ≡ length c.write_header.new.out = search rules in
    record { counts = counts; segments_in_bounds = omega (arith, c.write_header.auto.out, c.if-out-size.false, c.table_start-size.ensures) }

pub overflow_cast-result : goal.overflow_cast-result
overflow_cast-result c =
    let passed : sound_of c.args.u ≡ true = on c.if-not-sound.false-raw c.sound.ensures in
    let counts : Counts c.args.u.functions c.args.u.segments = sound_counts c.args.u passed in
    let u = c.args.u in
    let k = counts in
    omega (arith, c.table_start-size.ensures, tables_small u.segments u.functions k.segments k.functions)

pub returns : goal.returns
returns c =
    let passed : sound_of c.args.u ≡ true = on c.if-not-sound.false-raw c.sound.ensures in
    let a = c.args in
    let w = written a.u a.out.now c.write_header.new.out c.write_offsets.new.out c.write_tables.new.out
    (omega (arith, c.write_header.auto.out, c.if-out-size.false, c.table_start-size.ensures)) c.write_header.ensures c.write_offsets.ensures c.write_tables.ensures in
    let facts = ends_written a.u a.out.now c.table_start-size.result c.write_tables.new.out passed c.table_start-size.ensures c.if-out-size.false w in
    record { value = facts.0; out_after = facts.1 }
