-- `callers::unit_on` meets its contract: by the tests' answer. Assumes nothing.
use Rattle.std.proofs.Common.{Err}
use Prim.Native.Nat.{◌-◌}
use mathlib.Core.Path.{ap, ◌∙◌, sym}
use lib.Seq.{set-get_or}
use Rattle.callers.specs.Calls.{caller_of}
use Rattle.callers.specs.Parts.{unit_on_by}
use Rattle.callers.proofs.PartLaws.{parts}
use Rattle.callers.proofs.TestedLaws.{unit_accepted}
use Rattle.callers.proofs.unit_on.Goals as goal

pub turned_to-requires : goal.turned_to-requires
turned_to-requires c =
    let a = c.args in
    unit_accepted a.u a.callers a.turn a.length a.records.list a.counts.each (sym c.check_unit.ensures ∙ c.in_default.is)

pub returns-in-Err : goal.returns-in-Err
returns-in-Err c =
    let a = c.args in
    let i = caller_of a.callers a.turn a.counts.each in
    (λ k. record {
      turned = record {
        answer = Err c.in-Err.why;
        bank = a.bank;
        turn = a.turn;
        counts = record { each = sym (set-get_or a.counts.each (i - 1) 0) k };
      };
      records = record { list = sym (parts a.records.list i) k };
    })
    ∙ ap (unit_on_by a.u a.bank a.callers a.turn a.records.list a.counts.each)
    (sym c.in-Err.is ∙ c.check_unit.ensures)

pub returns : goal.returns
returns c =
    let a = c.args in
    c.turned_to.ensures
    ∙ ap (unit_on_by a.u a.bank a.callers a.turn a.records.list a.counts.each)
    (sym c.in_default.is ∙ c.check_unit.ensures)
