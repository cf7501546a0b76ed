-- Lines worked out by hand, as theorems. Assumes nothing.
use Rattle.std.proofs.Common.{Ok, Err, true}
use mathlib.Core.Path.{◌≡◌, refl, ap₂}
use mathlib.Core.List.{[], ◌∷◌, ◌++◌}
use Prim.Native.Nat.{ℕ}
use Rattle.words.specs.Below.{some_below, span_below, max_below, word_below, list_below}
use Rattle.text.specs.Text.{ascii, digits, decimal, column_text, vector_text}
use Rattle.unit.specs.declared.Refusal.TheVariants.{NoSuchTag}
use Rattle.collision.specs.Vector.{collides, row_word}
use Rattle.collision.proofs.Examples.{figure2, figure2_A_after_A}
use Rattle.listing.specs.Lines.{newline, number_line}
use Rattle.questions.specs.Replies.{numbered, matrix_width, verdict_line}

-- M_A of Fig. 2: row A has columns 2 and 3, row B has columns 2 and 4
figure2_width : matrix_width figure2 1 ≡ 4
unfolding matrix_width max_below figure2 row_word word_below collides some_below span_below
figure2_width = refl

-- so that row A is written in four columns
figure2_row : ascii "row " ++ vector_text (matrix_width figure2 1) (row_word figure2 1 1) ++ newline ≡ ascii "row 0110\n"
unfolding column_text list_below
figure2_row = ap₂ (λ (n w : ℕ). ascii "row " ++ vector_text n w ++ newline) figure2_width figure2_A_after_A

bound_line_lem : numbered (Ok 12) (number_line "bound ") ≡ ascii "bound 12\n"
unfolding decimal digits
bound_line_lem = refl

bound_refused : numbered (Err NoSuchTag) (number_line "bound ") ≡ ascii "refused 2\n"
unfolding decimal digits
bound_refused = refl

verdict_yes : verdict_line (Ok true) ≡ 121 ∷ 101 ∷ 115 ∷ 10 ∷ []
verdict_yes = refl
