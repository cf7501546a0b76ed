-- What a time unit did: it started a record, or none; or why it was refused.
use Rattle.std.specs.Prelude.{Result, Option}
use Rattle.unit.specs.declared.Refusal.{Refusal}
use Rattle.queue.specs.declared.Waiting.{Waiting}

abbrev pub Passed : Type 0
Passed = Result (Option Waiting) Refusal
