-- `column_text::put_columns` meets its contract. Assumes nothing.
use native.Mathlib.Omega.{arith}
use Rattle.text.specs.Text.{vector_text}
use Rattle.text.proofs.PutLaws.{put_left_out}
use Rattle.text.proofs.WroteLaws.{wrote_is_put}
use Rattle.text.proofs.RowLaws.{wrote_as, vector_dash, vector_some, vector_length}
use Rattle.column_text.proofs.put_columns.Goals as goal

pub returns-then-columns-eq0 : goal.returns-then-columns-eq0
returns-then-columns-eq0 c =
    let a = c.args in
    let facts = vector_dash a.out.now a.at a.columns a.word c.if-columns-eq0.true (c.put.ensures.value, c.put.ensures.out_after) in
    record { value = facts.0; out_after = facts.1 }

pub returns-then-out-count : goal.returns-then-out-count
returns-then-out-count c =
    let a = c.args in
    let l = vector_length a.columns a.word c.if-columns-eq0.false in
    let facts = put_left_out a.out.now a.at (vector_text a.columns a.word) (omega arith) in
    record { value = facts.0; out_after = facts.1 }

pub returns-then-out-count-2 : goal.returns-then-out-count-2
returns-then-out-count-2 c =
    let a = c.args in
    let l = vector_length a.columns a.word c.if-columns-eq0.false in
    let facts = put_left_out a.out.now a.at (vector_text a.columns a.word) (omega arith) in
    record { value = facts.0; out_after = facts.1 }

pub returns : goal.returns
returns c =
    let a = c.args in
    let facts = wrote_is_put (wrote_as c.write_columns.ensures (vector_some a.columns a.word c.if-columns-eq0.false)) in
    record { value = facts.0; out_after = facts.1 }
