-- What a line says: a request, or nothing; or what is wrong with it.
use Rattle.std.specs.Prelude.{Result, Option}
use Rattle.command.specs.declared.Request.{Request}
use Rattle.command.specs.declared.Trouble.{Trouble}

abbrev pub Parsed : Type 0
Parsed = Result (Option Request) Trouble
