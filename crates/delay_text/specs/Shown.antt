-- The unit with delays, as a session shows its table and has its file written.
use Rattle.std.specs.Prelude.{List, ℕ, length, Result}
use Rattle.unit.specs.declared.FunctionUnit.{FunctionUnit}
use Rattle.unit.specs.Answers.{Answer}
use Rattle.unit.specs.Calls.{and_then}
use Rattle.unit_file.specs.File.{file_length}
use Rattle.unit_file.specs.Write.{unit_file, write_refusal, length_answer, file_in_front}
use Rattle.diagram.specs.Answers.{written}
use Rattle.drawing.specs.Answers.{drawn, unit_table, table_refusal}
use Rattle.delays.specs.Delays.{delays_answer, delayed_unit}
use Rattle.unit.specs.declared.Refusal.{Refusal}

-- The table of its function: 1, 2, 19, 20 and 21, and then those of the drawing

unfoldable pub delayed_table_refusal : FunctionUnit → ℕ → ℕ → ℕ → Answer
delayed_table_refusal u q m room = and_then (delays_answer u q m) (table_refusal (delayed_unit u q m) 1 room)

unfoldable pub delayed_table_answer : FunctionUnit → ℕ → ℕ → ℕ → Result ℕ Refusal
delayed_table_answer u q m room = drawn (delayed_table_refusal u q m room) (unit_table (delayed_unit u q m) 1)

-- the text fills the front of the lent bytes, the others stay as before; a refused call changes none
unfoldable pub delayed_table_out : FunctionUnit → ℕ → ℕ → List ℕ → List ℕ
delayed_table_out u q m bytes = written (delayed_table_refusal u q m (length bytes)) (unit_table (delayed_unit u q m) 1) bytes

-- Its file: 1, 2, 19, 20 and 21, and then those of the writer

unfoldable pub delayed_file_refusal : FunctionUnit → ℕ → ℕ → ℕ → Answer
delayed_file_refusal u q m room = and_then (delays_answer u q m) (write_refusal (delayed_unit u q m) room)

unfoldable pub delayed_file_answer : FunctionUnit → ℕ → ℕ → ℕ → Result ℕ Refusal
delayed_file_answer u q m room = length_answer (delayed_file_refusal u q m room) (file_length 1 u.segments)

-- the file fills the front of the lent bytes, the others stay as before; a refused call changes none
unfoldable pub delayed_file_out : FunctionUnit → ℕ → ℕ → List ℕ → List ℕ
delayed_file_out u q m bytes = file_in_front (delayed_file_refusal u q m (length bytes)) (unit_file (delayed_unit u q m)) bytes
