-- `controller::register_of` meets its contract: the tag is the number of the arm that was taken, or none of them. Assumes nothing.
use mathlib.Core.Path.{◌≡◌}
use mathlib.Core.Bool.{false}
use native.Mathlib.Omega.{arith}
use lib.Dec.{eqb}
use borrow.Author.Tests.{ne_eqb}
use Rattle.controller.specs.Bank.{register}
use Rattle.controller.proofs.register_of.Goals as goal

pub returns-in-1 : goal.returns-in-1
unfolding register
returns-in-1 c = rw c.in-1.is

pub returns-in-2 : goal.returns-in-2
unfolding register
returns-in-2 c = rw c.in-2.is

pub returns-in-3 : goal.returns-in-3
unfolding register
returns-in-3 c = rw c.in-3.is

pub returns-in-4 : goal.returns-in-4
unfolding register
returns-in-4 c = rw c.in-4.is

pub returns-in_default : goal.returns-in_default
unfolding register
returns-in_default c =
    let t = c.args.tag in
    let n1 : eqb t 1 ≡ false = ne_eqb t 1 (λ z. omega arith) in
    let n2 : eqb t 2 ≡ false = ne_eqb t 2 (λ z. omega arith) in
    let n3 : eqb t 3 ≡ false = ne_eqb t 3 (λ z. omega arith) in
    let n4 : eqb t 4 ≡ false = ne_eqb t 4 (λ z. omega arith) in
    simp (n1, n2, n3, n4)
