-- What one event tries and leaves on lent registers. No public contract cites this file.
use Rattle.std.specs.Prelude.{ℕ, List, leb, length}
use Rattle.unit.specs.declared.FunctionUnit.{FunctionUnit}
use Rattle.unit.specs.declared.Refusal.TheVariants.{ShortOutput}
use Rattle.unit.specs.Answers.{Answer}
use Rattle.unit.specs.Calls.{check, and_then, handed}
use Rattle.controller.specs.declared.Event.{Event}
use Rattle.controller.specs.Bank.{event_answer, moved}
use Rattle.file_issue.specs.Issue.{bank_in, bank_over}

-- what was tried before, the number of words, then the event
unfoldable pub step_refusal : Answer → FunctionUnit → List ℕ → Event → Answer
step_refusal tried u words event = and_then tried (check (leb 4 (length words)) ShortOutput (event_answer u (bank_in words) event))

unfoldable pub step_words : Answer → FunctionUnit → Event → List ℕ → List ℕ
step_words tried u event words = handed (step_refusal tried u words event) (bank_over (moved u (bank_in words) event) words) words
