-- `delays::is_latency` meets its contract. Assumes nothing.
use mathlib.Core.Path.{◌∙◌, sym, ap}
use mathlib.Core.Bool.{◌&&◌}
use lib.Dec.{leb}
use Rattle.words.proofs.Tests.{on, off}
use Rattle.unit.specs.Unit.{marked}
use Rattle.collision.specs.Vector.{marks_of}
use Rattle.delays.proofs.EndLaws.{marks_given, marks_never}
use Rattle.delays.proofs.is_latency.Goals as goal

pub returns-then-not-is_inside : goal.returns-then-not-is_inside
returns-then-not-is_inside c = simp (off c.if-not-is_inside.true-raw c.is_inside.ensures)

pub returns-in-Err : goal.returns-in-Err
returns-in-Err c =
    absurd (marks_never c.args.u c.args.tag.0 c.requires _ c.marks-most.ensures _ c.in-Err.is)

pub returns-in-Ok : goal.returns-in-Ok
returns-in-Ok c =
    let m = c.args.latency in
    let most = marks_given c.args.u c.args.tag.0 c.requires _ c.marks-most.ensures _ c.in-Ok.is in
    ap (λ n. leb n m) most ∙ sym (ap (λ t. t && leb (marks_of (marked c.args.u) c.args.tag.0) m) (on c.if-not-is_inside.false-raw c.is_inside.ensures))
