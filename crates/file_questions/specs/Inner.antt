-- What the private function makes of a verdict. No public contract cites this file.
use Rattle.std.specs.Prelude.{Result, Ok, Err, Bool, true, false, ℕ}
use Rattle.unit.specs.declared.Refusal.{Refusal}

-- 1 for yes, 0 for no
abbrev pub verdict_number : Result Bool Refusal → Result ℕ Refusal
verdict_number (Ok true) = Ok 1
verdict_number (Ok false) = Ok 0
verdict_number (Err why) = Err why
