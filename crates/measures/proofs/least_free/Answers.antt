use Rattle.std.proofs.Common.{◌≡◌, sym, ◌∙◌, arith}
use Rattle.measures.proofs.NumberLaws.{least_found, least_end}
use Rattle.measures.proofs.least_free.Goals as goal

pub returns-then-free_of_multiples : goal.returns-then-free_of_multiples
returns-then-free_of_multiples c =
    least_found _ c.loop-m.m (omega arith) (omega arith) c.loop-m.invariant (sym c.free_of_multiples.ensures ∙ c.if-free_of_multiples.true)

pub returns : goal.returns
returns c =
    let e : c.loop-m.m ≡ 33 = omega arith in
    least_end c.args.vector (rw e at c.loop-m.invariant)
