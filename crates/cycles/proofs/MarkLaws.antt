-- The marks are one part of the words. Assumes nothing.
use mathlib.Core.Path.{◌≡◌}
use mathlib.Core.List.{List}
use Prim.Native.Nat.{ℕ, ◌+◌, ◌≤◌}
use native.Mathlib.Omega.{arith}
use lib.ListN.{length, replicate}
use borrow.Rule.Slice.PartMut.{mid_of, put_mid}
use Rattle.diagram.proofs.ClearLaws.{fill_length, fill_before, fill_zero, fill_beyond}
use Rattle.cycles.specs.Inner.{Unmarked}

pub marks_filled : (w ys : List ℕ) → 2048 ≤ length w → ys ≡ replicate (length (mid_of 768 256 w)) 0 → Unmarked w (put_mid 768 256 w ys)
marks_filled w ys h e =
    let fits : 768 + 256 ≤ length w = omega arith in
    record {
      size = fill_length 768 256 w ys fits e;
      none = fill_zero 768 256 w ys fits e;
      below = fill_before 768 256 w ys fits e;
      above = λ i l. fill_beyond 768 256 w ys fits e i (omega arith);
    }
