-- `listing::function::put_vector_line` meets its contract: the word of the vector, its columns, the end of the line. Assumes nothing.
use mathlib.Core.Path.{◌≡◌}
use native.Mathlib.Omega.{arith}
use Rattle.text.specs.Text.{ascii}
use Rattle.unit.specs.Unit.{marked}
use Rattle.collision.specs.Vector.{vector_word}
use Rattle.collision.specs.Answers.{vector_answer}
use Rattle.text.specs.Wrote.{Put}
use Rattle.text.proofs.BoundedLaws.{put_one}
use Rattle.listing.proofs.AskedLaws.{value_answering}
use Rattle.listing.proofs.FunctionLaws.{put_room, vector_line_lem}
use Rattle.listing.proofs.function.put_vector_line.Goals as goal

pub put_vector-after_vector-requires : goal.put_vector-after_vector-requires
put_vector-after_vector-requires c =
    let word : Put 7 c.args.out.now c.args.at (ascii "vector ") c.put-after_word.new.out c.put-after_word.result = put_one 7 (ascii "vector ") (c.put-after_word.ensures.value, c.put-after_word.ensures.out_after) (omega arith) (omega (arith, c.requires.1)) in
    put_room 32 word (omega (arith, c.requires.1))

pub returns : goal.returns
unfolding vector_answer
returns c =
    let vector-is : c.value_of-vector.result ≡ vector_word (marked c.args.u) c.args.tag.0 = value_answering _ c.requires.0 c.vector.ensures c.value_of-vector.ensures in
    let word : Put 7 c.args.out.now c.args.at (ascii "vector ") c.put-after_word.new.out c.put-after_word.result = put_one 7 (ascii "vector ") (c.put-after_word.ensures.value, c.put-after_word.ensures.out_after) (omega arith) (omega (arith, c.requires.1)) in
    vector_line_lem _ _ vector-is word c.put_vector-after_vector.ensures (c.put.ensures.value, c.put.ensures.out_after) c.requires.1
