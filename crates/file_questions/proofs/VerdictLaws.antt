-- A verdict as a number. Assumes nothing.
use Rattle.std.proofs.Common.{Ok, Err}
use mathlib.Core.Path.{◌≡◌, refl}
use mathlib.Core.Bool.{Bool, true, false, cond}
use Rattle.unit.specs.Answers.{Answer}
use Rattle.collision.specs.Answers.{answering}
use Rattle.judge.specs.Judge.{verdict}
use Rattle.file_questions.specs.Inner.{verdict_number}

-- a verdict is 1 or 0
pub verdict_number_lem : (a : Answer) (b : Bool) → verdict_number (verdict a b) ≡ answering a (cond b 0 1)
verdict_number_lem (Ok _) true = refl
verdict_number_lem (Ok _) false = refl
verdict_number_lem (Err why) b = refl
