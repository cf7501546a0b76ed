-- `table_totals::reaches` meets its contract: the product of 32 and 16 bits fits 64. Assumes nothing.
use Prim.Native.Nat.{◌*◌, ◌^◌, ◌≤◌, ◌<◌}
use native.Mathlib.Nat.{mul-le-mul}
use native.Mathlib.Omega.{arith}
use borrow.Author.Rules.{rules}
use borrow.Author.Tests.{eq-eqb, ne_eqb}
use Rattle.table_totals.proofs.reaches.Goals as goal

pub overflow_mul-bound : goal.overflow_mul-bound
overflow_mul-bound c =
    let a = c.args in
    let b : a.bound < 2 ^ 32 = search rules in
    let k : a.count < 2 ^ 16 = search rules in
    let m : a.bound * a.count ≤ 4294967295 * 65535 = mul-le-mul {n₂ = 4294967295} {m₂ = 65535} (omega arith) (omega arith) in
    omega arith

pub returns-then-sum-bound : goal.returns-then-sum-bound
returns-then-sum-bound c = simp (eq-eqb _ _ c.if-sum-bound.true)

pub returns : goal.returns
returns c = simp (ne_eqb _ _ c.if-sum-bound.false)
