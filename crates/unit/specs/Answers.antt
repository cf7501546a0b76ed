-- The answer of a call that accepts or refuses and hands out nothing else.
use Rattle.std.specs.Prelude.{Result, ⊤}
use Rattle.unit.specs.declared.Refusal.{Refusal}

abbrev pub Answer : Type 0
Answer = Result ⊤ Refusal
