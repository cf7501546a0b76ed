-- `listing::lines::put_vector` meets its contract. Assumes nothing.
use mathlib.Core.Path.{◌≡◌, ap}
use Prim.Native.Nat.{◌≤◌}
use native.Mathlib.Omega.{arith}
use lib.ListN.{length}
use Rattle.words.specs.Bits.{is_set}
use Rattle.words.proofs.BelowLaws.{span_most}
use Rattle.text.specs.Text.{vector_text}
use Rattle.text.proofs.RowLaws.{vector_most}
use Rattle.diagram.specs.Diagram.{width}
use Rattle.text.proofs.BoundedLaws.{put_as, put_one}
use Rattle.listing.proofs.lines.put_vector.Goals as goal

pub returns : goal.returns
returns c =
    let a = c.args in
    let e : c.width_of.result ≡ width a.vector = c.width_of.ensures in
    let few : length (vector_text c.width_of.result a.vector) ≤ 32 =
    vector_most c.width_of.result a.vector 32 (omega arith) (omega (arith, span_most 32 (is_set a.vector)))
    in
    put_as (put_one 32 _ (c.put_columns.ensures.value, c.put_columns.ensures.out_after) few (omega arith)) (ap (λ k. vector_text k a.vector) e) (omega arith)
