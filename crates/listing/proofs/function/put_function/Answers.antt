-- `listing::function::put_function` meets its contract: its lines in turn. Assumes nothing.
use Rattle.listing.proofs.FunctionLaws.{function_lines}
use Rattle.listing.proofs.function.put_function.Goals as goal

pub returns : goal.returns
returns c =
    function_lines c.put_line-after_tag.ensures c.put_vector_line-after_vector.ensures c.put_bound_line-after_bound.ensures c.put_states-after_states.ensures c.put_constant_line.ensures
