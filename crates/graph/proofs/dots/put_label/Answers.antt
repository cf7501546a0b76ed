-- `graph::dots::put_label` meets its contract. Assumes nothing.
use mathlib.Core.Path.{refl}
use mathlib.Core.List.{◌++◌}
use native.Mathlib.Omega.{arith}
use Rattle.text.specs.Text.{ascii, decimal}
use Rattle.text.proofs.DecimalLaws.{decimal_length}
use Rattle.text.specs.Wrote.{Put}
use Rattle.text.proofs.BoundedLaws.{put_one, put_more, put_word, put_as, put_room}
use Rattle.graph.proofs.dots.put_label.Goals as goal

pub put_style-after_style-requires : goal.put_style-after_style-requires
put_style-after_style-requires c =
    let latency-put : (let a = c.args in Put 18 a.out.now a.at (ascii " [label=" ++ decimal a.latency) c.put_number-after_latency.new.out c.put_number-after_latency.result) = let p = put_one 8 _ (c.put-after_word.ensures.value, c.put-after_word.ensures.out_after) (omega arith) (omega arith) in
    put_word 10 _ p (c.put_number-after_latency.ensures.value, c.put_number-after_latency.ensures.out_after) (decimal_length c.args.latency 10 (omega arith) (omega arith)) (omega arith) in
    put_room 12 latency-put (omega arith)

pub returns : goal.returns
returns c =
    let latency-put : (let a = c.args in Put 18 a.out.now a.at (ascii " [label=" ++ decimal a.latency) c.put_number-after_latency.new.out c.put_number-after_latency.result) = let p = put_one 8 _ (c.put-after_word.ensures.value, c.put-after_word.ensures.out_after) (omega arith) (omega arith) in
    put_word 10 _ p (c.put_number-after_latency.ensures.value, c.put_number-after_latency.ensures.out_after) (decimal_length c.args.latency 10 (omega arith) (omega arith)) (omega arith) in
    let q = put_more latency-put c.put_style-after_style.ensures in
    put_as (put_word 3 _ q (c.put.ensures.value, c.put.ensures.out_after) (omega arith) (omega arith)) refl (omega arith)
