-- Numbers in decimal, columns of a word and text put into bytes, computed. Assumes nothing.
use mathlib.Core.Path.{◌≡◌, refl}
use mathlib.Core.List.{[], ◌∷◌}
use Rattle.words.specs.Below.{list_below, join_below}
use Rattle.text.specs.Text.{ascii, digits, decimal, column_text, vector_text, spaced, value, put_in, put_end}

pub nought : decimal 0 ≡ ascii "0"
unfolding digits decimal
nought = refl

pub a_thousand_and_seven : decimal 1007 ≡ ascii "1007"
unfolding digits decimal
a_thousand_and_seven = refl

pub largest_word : decimal 4294967295 ≡ ascii "4294967295"
unfolding digits decimal
largest_word = refl

pub eight_columns : vector_text 8 177 ≡ ascii "10110001"
unfolding column_text list_below
eight_columns = refl

-- the columns above the third are left out
pub three_columns : vector_text 3 177 ≡ ascii "001"
unfolding column_text list_below
three_columns = refl

pub no_columns : vector_text 0 177 ≡ ascii "-"
no_columns = refl

pub two_numbers : spaced (3 ∷ 4 ∷ []) ≡ ascii " 3 4"
unfolding spaced join_below digits decimal
two_numbers = refl

pub three_numbers : spaced (0 ∷ 10 ∷ 4294967295 ∷ []) ≡ ascii " 0 10 4294967295"
unfolding spaced join_below digits decimal
three_numbers = refl

pub no_numbers : spaced [] ≡ []
unfolding spaced join_below
no_numbers = refl

pub read_again : value (ascii "1007") ≡ 1007
unfolding value
read_again = refl

pub two_at_one : put_in (1 ∷ 2 ∷ 3 ∷ []) 1 (ascii "ab") ≡ 1 ∷ 97 ∷ 98 ∷ []
unfolding put_in
two_at_one = refl

pub end_of_two_at_one : put_end (1 ∷ 2 ∷ 3 ∷ []) 1 (ascii "ab") ≡ 3
unfolding put_end
end_of_two_at_one = refl

-- two bytes do not fit at the last index
pub left_out : put_in (1 ∷ 2 ∷ 3 ∷ []) 2 (ascii "ab") ≡ 1 ∷ 2 ∷ 3 ∷ []
unfolding put_in
left_out = refl

pub end_of_left_out : put_end (1 ∷ 2 ∷ 3 ∷ []) 2 (ascii "ab") ≡ 2
unfolding put_end
end_of_left_out = refl
