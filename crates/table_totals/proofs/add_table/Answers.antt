-- `table_totals::add_table` meets its contract: the larger average is kept, and the earlier of two equal ones. Assumes nothing.
use Prim.Native.Nat.{◌*◌, ◌≤◌, ◌<◌}
use mathlib.Core.Path.{refl}
use mir.Syntax.{w32}
use mir.Val.{Fits}
use native.Mathlib.Omega.{arith}
use Rattle.table_totals.proofs.FractionLaws.{cross_fits}
use Rattle.table_totals.proofs.add_table.Goals as goal

pub overflow_mul-t : goal.overflow_mul-t
overflow_mul-t c =
    let f : c.args.t.sum * c.args.a.count ≤ 16777216 = cross_fits c.requires.tally c.requires.average in
    omega arith

pub overflow_mul-a : goal.overflow_mul-a
overflow_mul-a c =
    let f : c.args.a.sum * c.args.t.count ≤ 16777216 = cross_fits c.requires.average c.requires.tally in
    let g : Fits w32 (c.args.a.sum * c.args.t.count) = omega arith in
    g

pub returns-then-t-a : goal.returns-then-t-a
returns-then-t-a c =
    let l : c.args.t.sum * c.args.a.count < c.args.a.sum * c.args.t.count = c.if-t-a.true in
    record { larger = λ h. refl; other = λ h. absurd (omega arith) }

pub returns : goal.returns
returns c =
    let l : c.args.a.sum * c.args.t.count ≤ c.args.t.sum * c.args.a.count = c.if-t-a.false in
    record { larger = λ h. absurd (omega arith); other = λ h. refl }
