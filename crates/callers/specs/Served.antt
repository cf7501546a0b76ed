-- What a time unit did: it started a record of a caller, or none; or why it was refused.
use Rattle.std.specs.Prelude.{ℕ, Result, Option}
use Rattle.unit.specs.declared.Refusal.{Refusal}
use Rattle.queue.specs.declared.Waiting.{Waiting}

abbrev pub Served : Type 0
Served = Result (Option (ℕ × Waiting)) Refusal
