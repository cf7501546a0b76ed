-- Figures 1 and 2 of the paper: the vector and the rows of their tables, as theorems. Assumes nothing.
use Prim.Native.Nat.{ℕ, ◌-◌}
use mathlib.Core.Path.{◌≡◌, refl, ap, ◌∙◌, sym}
use mathlib.Core.Bool.{Bool, false, ◌&&◌, ◌||◌}
use mathlib.Core.List.{List, [], ◌∷◌}
use lib.Dec.{leb, eqb}
use lib.ListN.{get_or}
use Rattle.words.specs.Bits.{is_set}
use Rattle.words.specs.Below.{some_below, span_below, word_below}
use Rattle.unit.specs.Table.{Table}
use Rattle.collision.specs.Vector.{collides, row_word, vector_word, largest_forbidden}
use Rattle.collision.proofs.VectorLaws.{largest_span}

-- c is one of the columns
abbrev pub among : ℕ → List ℕ → Bool
among c [] = false
among c (d ∷ l) = eqb c d || among c l

-- the table of a list of functions, each the list of its segments' columns
abbrev pub table_of : List (List (List ℕ)) → Table
table_of functions q s c = leb 1 q && (leb 1 s && among c (get_or (get_or functions (q - 1) []) (s - 1) []))

-- Figure 1: one function. Forbidden are 8; 1, 6, 5; 1; 1.
unfoldable pub figure1 : Table
figure1 = table_of (((1 ∷ 9 ∷ []) ∷ (2 ∷ 3 ∷ 8 ∷ []) ∷ (4 ∷ []) ∷ (5 ∷ 6 ∷ []) ∷ (7 ∷ 8 ∷ []) ∷ []) ∷ [])

pub figure1_vector : vector_word figure1 1 ≡ 0b10110001
unfolding figure1 row_word word_below collides some_below
figure1_vector = refl

pub figure1_largest : largest_forbidden figure1 1 ≡ 8
unfolding span_below
figure1_largest = sym (largest_span figure1 1) ∙ ap (λ w. span_below 32 (is_set w)) figure1_vector

-- Figure 2: A is tag 1, B is tag 2
unfoldable pub figure2 : Table
figure2 =
    table_of (((1 ∷ 4 ∷ []) ∷ (2 ∷ []) ∷ (3 ∷ 5 ∷ []) ∷ [])
    ∷ ((2 ∷ 5 ∷ []) ∷ (4 ∷ []) ∷ (1 ∷ 3 ∷ []) ∷ [])
    ∷ [])

-- M_A: row A, row B
pub figure2_A_after_A : row_word figure2 1 1 ≡ 0b0110
unfolding figure2 row_word word_below collides some_below
figure2_A_after_A = refl

pub figure2_B_after_A : row_word figure2 2 1 ≡ 0b1010
unfolding figure2 row_word word_below collides some_below
figure2_B_after_A = refl

-- M_B: row A, row B
pub figure2_A_after_B : row_word figure2 1 2 ≡ 0b1011
unfolding figure2 row_word word_below collides some_below
figure2_A_after_B = refl

pub figure2_B_after_B : row_word figure2 2 2 ≡ 0b0110
unfolding figure2 row_word word_below collides some_below
figure2_B_after_B = refl
