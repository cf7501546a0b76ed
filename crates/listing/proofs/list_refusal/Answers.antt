-- `listing::list_refusal` meets its contract: the line is put together first, and handed over. Assumes nothing.
use native.Mathlib.Omega.{arith}
use Rattle.text.specs.Text.{ascii}
use Rattle.listing.proofs.FunctionLaws.{number_line_lem}
use Rattle.listing.proofs.AreaLaws.{put_front, put_front_length, printed_as}
use Rattle.listing.proofs.list_refusal.Goals as goal

pub slice_bounds-hand_out-end : goal.slice_bounds-hand_out-end
slice_bounds-hand_out-end c = put_front_length c.put_line-end.ensures

pub hand_out-requires : goal.hand_out-requires
hand_out-requires c = omega (arith, c.put_line-end.ensures.few, put_front_length c.put_line-end.ensures)

pub returns : goal.returns
returns c =
    printed_as (put_front (number_line_lem (ascii "refused ") c.from.ensures c.put_line-end.ensures)) c.hand_out.ensures
