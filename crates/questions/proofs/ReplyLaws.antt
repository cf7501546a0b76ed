-- A line that was written is the one that answers the question. Assumes nothing.
use Rattle.std.proofs.Common.{Result, Ok, Err}
use mathlib.Core.Path.{◌≡◌, sym, ap, ◌∙◌}
use mathlib.Core.List.{List, ◌++◌}
use Prim.Native.Nat.{ℕ}
use native.Mathlib.Omega.{arith}
use lib.ListN.{take}
use Rattle.text.specs.Text.{ascii, vector_text}
use Rattle.text.specs.Wrote.{Wrote}
use Rattle.unit.specs.declared.FunctionUnit.{FunctionUnit}
use Rattle.unit.specs.declared.Refusal.{Refusal}
use Rattle.unit.specs.Unit.{marked}
use Rattle.collision.specs.Answers.{vector_answer, row_answer}
use Rattle.diagram.specs.Diagram.{width}
use Rattle.listing.specs.Lines.{newline, refused_line}
use Rattle.listing.proofs.AreaLaws.{put_front}
use Rattle.questions.specs.declared.Question.{Question}
use Rattle.questions.specs.Replies.{numbered, vector_reply, matrix_width, row_reply, reply_to}

-- A number that was asked for

pub numbered_refused : {asked : (Result ℕ Refusal)} {why : Refusal} (line : ℕ → List ℕ) → asked ≡ Err why → refused_line why ≡ numbered asked line
numbered_refused line t = ap (λ a. numbered a line) (sym t)

pub numbered_value : {asked : (Result ℕ Refusal)} {n : ℕ} (line : ℕ → List ℕ) → asked ≡ Ok n → line n ≡ numbered asked line
numbered_value line t = ap (λ a. numbered a line) (sym t)

-- Rows

-- a row in n columns
abbrev pub row_line : List ℕ → ℕ → ℕ → List ℕ
row_line word n w = word ++ vector_text n w ++ newline

module _ (u : FunctionUnit) (q : ℕ) {asked : (Result ℕ Refusal)} (a : asked ≡ vector_answer u q) where
  pub vector_refused : {why : Refusal} → asked ≡ Err why → refused_line why ≡ vector_reply u q
  unfolding vector_reply
  vector_refused t = numbered_refused (λ w. row_line (ascii "vector ") (width w) w) (sym a ∙ t)

  pub vector_shown : {w columns : ℕ} → asked ≡ Ok w → columns ≡ width w → row_line (ascii "vector ") columns w ≡ vector_reply u q
  unfolding vector_reply
  vector_shown {w} t e =
      ap (λ n. row_line (ascii "vector ") n w) e ∙ numbered_value (λ w. row_line (ascii "vector ") (width w) w) (sym a ∙ t)

module _ (u : FunctionUnit) (q r : ℕ) {asked : (Result ℕ Refusal)} (a : asked ≡ row_answer u q r) where
  pub row_refused : {why : Refusal} → asked ≡ Err why → refused_line why ≡ row_reply u q r
  unfolding row_reply
  row_refused t = numbered_refused (row_line (ascii "row ") (matrix_width (marked u) r)) (sym a ∙ t)

  pub row_shown : {w columns : ℕ} → asked ≡ Ok w → columns ≡ matrix_width (marked u) r → row_line (ascii "row ") columns w ≡ row_reply u q r
  unfolding row_reply
  row_shown {w} t e = ap (λ n. row_line (ascii "row ") n w) e ∙ numbered_value (row_line (ascii "row ") (matrix_width (marked u) r)) (sym a ∙ t)

-- The question

-- what answers the question that was told
pub reply_told : (u : FunctionUnit) (cycle : List ℕ) {question told : Question} → question ≡ told → reply_to u told cycle ≡ reply_to u question cycle
reply_told u cycle e = ap (λ x. reply_to u x cycle) (sym e)

-- a line written from the first byte on stands in front
pub line_front : {before line bytes : List ℕ} {end : ℕ} → Wrote before 0 line bytes end → take end bytes ≡ line
line_front {end = end} w = put_front {n = end} record { wrote = w; few = omega arith }
