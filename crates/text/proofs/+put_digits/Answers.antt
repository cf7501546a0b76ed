-- Where the arms of the branch meet, all digits but the last are written.
use Rattle.std.proofs.Common.{◌∙◌, arith}
use Rattle.text.specs.Wrote.{Wrote}
use Rattle.text.proofs.DecimalLaws.{decimal_longer}
use Rattle.text.proofs.WroteLaws.{wrote_length}
use Rattle.text.proofs.HigherLaws.{higher, higher_start, higher_tenth, higher_last}
use Rattle.text.proofs.+put_digits.Goals as goal
use Rattle.text.proofs.+put_digits.Goals.{then-number-ge10, else-number-ge10}

pub put_digits-last-requires : goal.put_digits-last-requires
put_digits-last-requires t c =
    let longer = decimal_longer c.args.number (omega arith) (omega arith) in
    (omega arith, omega arith)

pub bounds-out-last : goal.bounds-out-last
bounds-out-last t c =
    let before_last : Wrote c.args.out.now c.args.at (higher c.args.number) c.if-number-ge10.out c.if-number-ge10.last = elim c.if-number-ge10.branch [
      | then-number-ge10 w ↦ higher_tenth c.args.number (omega arith) record {
        bytes = w.out-is ∙ w.put_digits-last.ensures.out_after;
        next = w.last-is ∙ w.put_digits-last.ensures.value;
        room = omega (arith, decimal_longer c.args.number (omega arith) (omega arith));
      }
      | else-number-ge10 w ↦ higher_start c.args.number (omega arith) (omega arith) w.out-is w.last-is
    ] in
    let w = higher_last c.args.number (omega arith) c.requires before_last in
    omega (arith, w.next, w.room, wrote_length before_last)

pub returns : goal.returns
returns t c =
    let before_last : Wrote c.args.out.now c.args.at (higher c.args.number) c.if-number-ge10.out c.if-number-ge10.last = elim c.if-number-ge10.branch [
      | then-number-ge10 w ↦ higher_tenth c.args.number (omega arith) record {
        bytes = w.out-is ∙ w.put_digits-last.ensures.out_after;
        next = w.last-is ∙ w.put_digits-last.ensures.value;
        room = omega (arith, decimal_longer c.args.number (omega arith) (omega arith));
      }
      | else-number-ge10 w ↦ higher_start c.args.number (omega arith) (omega arith) w.out-is w.last-is
    ] in
    let w = higher_last c.args.number (omega arith) c.requires before_last in
    record { value = w.next; out_after = w.bytes }
