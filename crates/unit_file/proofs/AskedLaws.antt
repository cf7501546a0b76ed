-- What a call on a lent file knows of what was read: its answer, and that a refused file's unit is refused. Assumes nothing.
use Rattle.std.proofs.Common.{Err}
use Prim.Native.Nat.{ℕ}
use mathlib.Core.Path.{◌≡◌, sym, ap, ◌∙◌}
use mathlib.Core.List.{List}
use Rattle.unit.specs.declared.Outcome.{Outcome}
use Rattle.unit.specs.declared.Refusal.{Refusal}
use Rattle.unit.specs.declared.Refusal.TheVariants.{NotSound}
use Rattle.unit.specs.Answers.{Answer}
use Rattle.unit.specs.Unit.{sound_of}
use Rattle.unit.specs.Calls.{tag_answer, outcome, blank, unit_of}
use Rattle.unit_file.specs.Read.{functions_in, segments_in, columns_in, file_table, read_answer, read_of, unit_in}
use Rattle.unit_file.proofs.AcceptedLaws.{read_answer_lem}

-- what was read says the file's answer
pub read_gives : {a : Answer} (file : List ℕ) (back : Outcome) → back ≡ read_of file → back.answer ≡ a → read_answer file ≡ a
read_gives file back read e = sym (read_answer_lem file) ∙ ap (λ o. o.answer) (sym read) ∙ e

-- a refused file's unit has no function, so that a call on it changes nothing
pub unit_unread : (file : List ℕ) (q : ℕ) (why : Refusal) → read_answer file ≡ Err why → tag_answer (unit_in file) q ≡ Err NotSound
unfolding read_of tag_answer sound_of
unit_unread file q why e =
    ap (λ a. tag_answer (outcome a (blank 0 0 0) (unit_of (functions_in file) (segments_in file) (columns_in file) (file_table file))).unit q) e
