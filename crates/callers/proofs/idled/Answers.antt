-- `callers::idled` meets its contract: the controller's tick, and all else stays. Assumes nothing.
use Rattle.std.proofs.Common.{Ok, None}
use Prim.Native.Nat.{◌-◌}
use mathlib.Core.Path.{sym}
use lib.Seq.{set-get_or}
use Rattle.callers.proofs.PartLaws.{parts}
use Rattle.callers.proofs.idled.Goals as goal

pub returns : goal.returns
returns c =
    let a = c.args in
    λ i. record {
      turned = record {
        answer = Ok None;
        bank = (c.step-after.ensures i).bank;
        turn = a.caller;
        counts = record { each = sym (set-get_or a.counts.each (a.caller - 1) 0) i };
      };
      records = record { list = sym (parts a.records.list a.caller) i };
    }
