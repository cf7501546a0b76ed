-- `listing::function::put_bound_line` meets its contract: a word and the bound, a word and the upper bound. Assumes nothing.
use mathlib.Core.Path.{◌≡◌}
use mathlib.Core.List.{◌++◌}
use native.Mathlib.Omega.{arith}
use Rattle.text.specs.Text.{ascii, decimal}
use Rattle.unit.specs.Unit.{marked}
use Rattle.collision.specs.Vector.{bound_of, upper_of}
use Rattle.collision.specs.Answers.{bound_answer, upper_answer}
use Rattle.text.specs.Wrote.{Put}
use Rattle.text.proofs.BoundedLaws.{put_one}
use Rattle.listing.proofs.AskedLaws.{value_answering}
use Rattle.listing.proofs.FunctionLaws.{put_decimal, put_room, bound_line_lem}
use Rattle.listing.proofs.function.put_bound_line.Goals as goal

pub put_line-requires : goal.put_line-requires
put_line-requires c =
    let first : Put 16 c.args.out.now c.args.at (ascii "bound " ++ decimal c.value_of-bound.result) c.put_number-after_bound.new.out c.put_number-after_bound.result = let room = c.requires.1 in
    put_decimal c.value_of-bound.result (omega (arith, c.value_of-bound.type_inv))
    (put_one 6 (ascii "bound ") (c.put-after_word.ensures.value, c.put-after_word.ensures.out_after) (omega arith) (omega (arith, room)))
    (c.put_number-after_bound.ensures.value, c.put_number-after_bound.ensures.out_after) (omega (arith, room)) in
    omega (arith, put_room 18 first (omega (arith, c.requires.1)))

pub returns : goal.returns
unfolding bound_answer upper_answer
returns c =
    let bound-is : c.value_of-bound.result ≡ bound_of (marked c.args.u) c.args.tag.0 = value_answering _ c.requires.0 c.bound.ensures c.value_of-bound.ensures in
    let upper_is : c.value_of-upper.result ≡ upper_of (marked c.args.u) c.args.tag.0 = value_answering _ c.requires.0 c.upper.ensures c.value_of-upper.ensures in
    let first : Put 16 c.args.out.now c.args.at (ascii "bound " ++ decimal c.value_of-bound.result) c.put_number-after_bound.new.out c.put_number-after_bound.result = let room = c.requires.1 in
    put_decimal c.value_of-bound.result (omega (arith, c.value_of-bound.type_inv))
    (put_one 6 (ascii "bound ") (c.put-after_word.ensures.value, c.put-after_word.ensures.out_after) (omega arith) (omega (arith, room)))
    (c.put_number-after_bound.ensures.value, c.put_number-after_bound.ensures.out_after) (omega (arith, room)) in
    bound_line_lem _ _ bound-is upper_is first c.put_line.ensures
