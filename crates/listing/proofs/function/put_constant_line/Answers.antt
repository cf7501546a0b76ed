-- `listing::function::put_constant_line` meets its contract: a word and the constant latency. Assumes nothing.
use Rattle.text.specs.Text.{ascii}
use Rattle.collision.specs.Answers.{constant_answer}
use Rattle.listing.proofs.AskedLaws.{value_answering}
use Rattle.listing.proofs.FunctionLaws.{number_line_lem}
use Rattle.listing.proofs.function.put_constant_line.Goals as goal

pub returns : goal.returns
unfolding constant_answer
returns c =
    number_line_lem (ascii "constant ") (value_answering _ c.requires.0 c.constant.ensures c.value_of-constant.ensures) c.put_line.ensures
