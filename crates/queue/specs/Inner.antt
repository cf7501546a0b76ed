-- What the private functions find: the tests of a list, and what is left where a time unit did this. No public contract cites this file.
use Rattle.std.specs.Prelude.{ℕ, leb, Ok}
use Rattle.unit.specs.declared.FunctionUnit.{FunctionUnit}
use Rattle.unit.specs.declared.Refusal.TheVariants.{NotSound, ShortOutput}
use Rattle.unit.specs.Answers.{Answer}
use Rattle.unit.specs.Unit.{sound_of}
use Rattle.unit.specs.Calls.{check}
use Rattle.controller.specs.declared.Bank.{Bank}
use Rattle.queue.specs.Passed.{Passed}
use Rattle.queue.specs.declared.Pass.{Pass}
use Rattle.queue.specs.Calls.{bank_then, fewer}

abbrev pub list_by : ℕ → FunctionUnit → ℕ → Answer
list_by size u length = check (sound_of u) NotSound (check (leb size length) ShortOutput (Ok tt))

-- a time unit that did this
abbrev pub pass_by : FunctionUnit → Bank → ℕ → Passed → Pass
pass_by u b count a = record { answer = a; bank = bank_then u a b; count = fewer a count }
