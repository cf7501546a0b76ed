-- The worked examples of the papers: a constant list of eleven rows, each a table with a question about it and its answer.
use Rattle.std.specs.Prelude.{◌≡◌, ◌↔◌, true, ◌&&◌, List, [], ◌∷◌, ℕ, zero, suc, ◌-◌, ◌^◌, ◌≤◌, ◌<◌, length, get_or}
use Rattle.words.specs.Bits.{bit}
use Rattle.unit.specs.Table.{Table}
use Rattle.unit.specs.Unit.{inside}
use Rattle.collision.specs.Pipeline.{Forbidden, total}
use Rattle.collision.specs.Vector.{row_word, vector_word}
use Rattle.collision.specs.Meaning.{IsLargest, IsConstant}
use Rattle.diagram.specs.Diagram.{width, Reachable}
use Rattle.diagram.specs.States.{Listed, Each, Distinct, has}
use Rattle.clique.specs.Sets.{IsLargestClique}
use Rattle.cycles.specs.Greedy.{greedy_of}
use Rattle.planner.specs.Plans.{Best}

-- Tables

-- the columns of the marks of each function, segment by segment
abbrev pub table_of : List (List (List ℕ)) → Table
table_of functions q s c =
    let segments : List (List ℕ) = get_or functions (q - 1) [] in
    inside q (length functions) && (inside s (length segments) && has c (get_or segments (s - 1) []))

-- Fig. 1: 5 segments, 9 columns
abbrev pub figure1 : Table
figure1 = table_of (((1 ∷ 9 ∷ []) ∷ (2 ∷ 3 ∷ 8 ∷ []) ∷ (4 ∷ []) ∷ (5 ∷ 6 ∷ []) ∷ (7 ∷ 8 ∷ []) ∷ []) ∷ [])

-- Fig. 2: A is function 1, B is function 2; 3 segments, 5 columns
abbrev pub figure2 : Table
figure2 = table_of (((1 ∷ 4 ∷ []) ∷ (2 ∷ []) ∷ (3 ∷ 5 ∷ []) ∷ []) ∷ ((2 ∷ 5 ∷ []) ∷ (4 ∷ []) ∷ (1 ∷ 3 ∷ []) ∷ []) ∷ [])

-- marks 1 3 6 in one segment
abbrev pub one_segment : Table
one_segment = table_of (((1 ∷ 3 ∷ 6 ∷ []) ∷ []) ∷ [])

-- three segments
abbrev pub three_segments : Table
three_segments = table_of (((1 ∷ 3 ∷ []) ∷ (1 ∷ 4 ∷ []) ∷ (1 ∷ 7 ∷ []) ∷ []) ∷ [])

-- Questions

pub data Question : Type 0 where
  -- the collision vector, c_n to c_1
  vector : List ℕ → Question
  -- how many states the diagram has
  states : ℕ → Question
  -- the greedy cycle and its sum
  greedy : List ℕ → ℕ → Question
  -- the best cycle and its sum
  best : List ℕ → ℕ → Question
  constant : ℕ → Question
  -- the row of the function in the matrix of another, its columns from the highest down to 1
  row : ℕ → List ℕ → Question
  -- the forbidden latencies, and the best cycle and its sum
  forbidden : List ℕ → List ℕ → ℕ → Question
  -- the best cycle and its sum, and the bound
  best_and_bound : List ℕ → ℕ → ℕ → Question

pub record Row : Type 0 where
  pub table : Table
  pub tag : ℕ
  pub question : Question

-- What each answer means

-- the columns n to 1 of a word
abbrev pub columns_down : ℕ → ℕ → List ℕ
columns_down zero w = []
columns_down (suc n) w = bit w n ∷ columns_down n w

-- these are the columns of the word, and all other bits are 0
pub record Columns (w : ℕ) (columns : List ℕ) : Type 0 where
  pub bits : columns_down (length columns) w ≡ columns
  pub fits : w < 2 ^ length columns

-- n states are reachable, and no other
pub record HasStates (T : Table) (q n : ℕ) : Type 0 where
  pub list : List ℕ
  pub count : length list ≡ n
  pub distinct : Distinct list
  pub reached : Each (Reachable 1 (width (vector_word T q)) (vector_word T q)) list
  pub all : (s : ℕ) → Reachable 1 (width (vector_word T q)) (vector_word T q) s → Listed s list

-- the best cycle, against every rival
pub record BestIs (T : Table) (q : ℕ) (cycle : List ℕ) (sum : ℕ) : Type 0 where
  pub best : Best 1 T q cycle
  pub sums : total cycle ≡ sum

abbrev pub Answers : Table → ℕ → Question → Type 0
Answers T q (vector columns) = Columns (vector_word T q) columns × IsLargest T q (length columns)
Answers T q (states n) = HasStates T q n
Answers T q (greedy cycle sum) = (greedy_of 1 T q ≡ cycle) × (total cycle ≡ sum)
Answers T q (best cycle sum) = BestIs T q cycle sum
Answers T q (constant m) = IsConstant T q m
Answers T q (row r columns) = Columns (row_word T q r) columns
Answers T q (forbidden latencies cycle sum) = ((t : ℕ) → 1 ≤ t → Forbidden T q t ↔ (has t latencies ≡ true)) × BestIs T q cycle sum
Answers T q (best_and_bound cycle sum b) = BestIs T q cycle sum × IsLargestClique T q b

abbrev pub Holds : Row → Type 0
Holds r = Answers r.table r.tag r.question

-- The rows

abbrev pub row_of : Table → ℕ → Question → Row
row_of T q a = record { table = T; tag = q; question = a }

unfoldable pub rows : List Row
rows =
    row_of figure1 1 (vector (1 ∷ 0 ∷ 1 ∷ 1 ∷ 0 ∷ 0 ∷ 0 ∷ 1 ∷ []))
    ∷ row_of figure1 1 (states 5)
    ∷ row_of figure1 1 (greedy (2 ∷ 2 ∷ 7 ∷ []) 11)
    ∷ row_of figure1 1 (best (3 ∷ 4 ∷ []) 7)
    ∷ row_of figure1 1 (constant 7)
    ∷ row_of figure2 1 (row 1 (0 ∷ 1 ∷ 1 ∷ 0 ∷ []))
    ∷ row_of figure2 2 (row 1 (1 ∷ 0 ∷ 1 ∷ 0 ∷ []))
    ∷ row_of figure2 1 (row 2 (1 ∷ 0 ∷ 1 ∷ 1 ∷ []))
    ∷ row_of figure2 2 (row 2 (0 ∷ 1 ∷ 1 ∷ 0 ∷ []))
    ∷ row_of one_segment 1 (forbidden (2 ∷ 3 ∷ 5 ∷ []) (1 ∷ 6 ∷ []) 7)
    ∷ row_of three_segments 1 (best_and_bound (1 ∷ 4 ∷ 4 ∷ []) 9 3)
    ∷ []

-- there are eleven, and every one holds (`every_row`, proofs/EveryRow.antt)
abbrev pub EveryRow : Type 0
EveryRow = (length rows ≡ 11) × ((i : ℕ) → i < length rows → Holds (get_or rows i (row_of figure1 1 (states 5))))
