-- What the printer writes, line by line. Numbers are in decimal, without leading zeros; a vector's columns and a cycle's latencies are rows of crate text.
use Rattle.std.specs.Prelude.{ℕ, ◌+◌, cond, List, [], ◌∷◌, ◌++◌, leb, length}
use Prim.Native.String.{String}
use Rattle.words.specs.Below.{join_below}
use Rattle.text.specs.Text.{ascii, decimal, vector_text, spaced}
use Rattle.unit.specs.declared.Refusal.{Refusal}
use Rattle.unit.specs.declared.Refusal.TheVariants.{TooManyStates}
use Rattle.unit.specs.Numbers.{number_of}
use Rattle.unit.specs.Table.{Table}
use Rattle.collision.specs.Pipeline.{total}
use Rattle.collision.specs.Vector.{vector_word, largest_forbidden, bound_of, upper_of, constant_of}
use Rattle.diagram.specs.Answers.{states_of}
use Rattle.cycles.specs.Greedy.{greedy_of}

abbrev pub newline : List ℕ
newline = 10 ∷ []

-- a word and a number
abbrev pub number_line : String → ℕ → List ℕ
number_line word n = ascii word ++ decimal n ++ newline

-- a word, the latencies and their sum
abbrev pub cycle_line : String → List ℕ → List ℕ
cycle_line word cycle = ascii word ++ spaced cycle ++ ascii " sum " ++ decimal (total cycle) ++ newline

abbrev pub refused_line : Refusal → List ℕ
refused_line why = number_line "refused " (number_of why)

-- the states, the greedy and the best cycle; with too many states one line replaces them
abbrev pub state_lines : Table → ℕ → List ℕ → List ℕ
state_lines T q best =
    cond (leb (length (states_of 1 T q)) 256)
    (number_line "states " (length (states_of 1 T q)) ++ cycle_line "greedy" (greedy_of 1 T q) ++ cycle_line "best" best)
    (refused_line TooManyStates)

abbrev pub vector_line : Table → ℕ → List ℕ
vector_line T q = ascii "vector " ++ vector_text (largest_forbidden T q) (vector_word T q) ++ newline

abbrev pub bound_line : Table → ℕ → List ℕ
bound_line T q = ascii "bound " ++ decimal (bound_of T q) ++ ascii " upper " ++ decimal (upper_of T q) ++ newline

-- all lines of a function, where `best` is its best cycle
unfoldable pub function_text : Table → ℕ → List ℕ → List ℕ
function_text T q best =
    number_line "function " q
    ++ vector_line T q
    ++ bound_line T q
    ++ state_lines T q best
    ++ number_line "constant " (constant_of T q)

-- for each tag its lines, where `best` gives the best cycle of each
unfoldable pub unit_text : Table → ℕ → (ℕ → List ℕ) → List ℕ
unit_text T functions best = join_below functions (λ i. function_text T (i + 1) (best (i + 1)))
