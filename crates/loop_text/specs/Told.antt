-- What a designer who asks for a loop is told.
use Rattle.std.specs.Prelude.{◌≡◌, List, ℕ, Ok, Err}
use Rattle.unit.specs.declared.FunctionUnit.{FunctionUnit}
use Rattle.unit.specs.declared.Refusal.{Refusal}
use Rattle.listing.specs.Lines.{cycle_line, refused_line}
use Rattle.session.specs.Sessions.{Line}
use Rattle.loops.specs.Best.{BestLoop}
use Rattle.loops.specs.Answers.{loop_answer}

-- the latencies and their sum. Free is which of several loops of least average is told.
pub record ToldLoop (u : FunctionUnit) (tags text : List ℕ) : Type 0 where
  pub latencies : List ℕ
  pub best : BestLoop u tags latencies
  pub spelled : text ≡ cycle_line "loop cycle" latencies

-- a line stands in front of the lent bytes, if there is room for it: a loop, or `refused` and the number
pub record LoopTold (u : FunctionUnit) (tags before after : List ℕ) (end : ℕ) : Type 0 where
  pub text : List ℕ
  pub found : loop_answer u tags 16000 ≡ Ok tt → ToldLoop u tags text
  pub refused : (why : Refusal) → loop_answer u tags 16000 ≡ Err why → text ≡ refused_line why
  pub line : Line text before after end
