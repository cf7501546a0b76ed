-- `console::lines::write_cycle` meets its contract. Assumes nothing.
use Prim.Native.Nat.{ℕ, ◌^◌, ◌<◌}
use native.Mathlib.Omega.{arith}
use lib.ListN.{length, get_or}
use Rattle.console.proofs.LineLaws.{cycle_room, cycle_wrote}
use Rattle.console.proofs.lines.write_cycle.Goals as goal

pub put_value-after_sum-requires : goal.put_value-after_sum-requires
put_value-after_sum-requires c =
    let small : (i : ℕ) → i < length c.args.cycle.now → get_or c.args.cycle.now i 0 < 10 ^ 3 = λ i l. omega (arith, c.shared_slice_known-1.given i) in
    let a = c.args in
    omega (arith, cycle_room a.line.now a.at a.cycle.now small c.requires (c.put-after_word.ensures.value, c.put-after_word.ensures.out_after) (c.put_bytes-after_cycle.ensures.value, c.put_bytes-after_cycle.ensures.out_after))

pub returns : goal.returns
returns c =
    let small : (i : ℕ) → i < length c.args.cycle.now → get_or c.args.cycle.now i 0 < 10 ^ 3 = λ i l. omega (arith, c.shared_slice_known-1.given i) in
    let a = c.args in
    cycle_wrote a.line.now a.at a.cycle.now small c.requires (c.put-after_word.ensures.value, c.put-after_word.ensures.out_after) (c.put_bytes-after_cycle.ensures.value, c.put_bytes-after_cycle.ensures.out_after) a.sum c.put_value-after_sum.ensures
    (c.put.ensures.value, c.put.ensures.out_after)
