-- A small table, computed. Assumes nothing.
use mathlib.Core.Path.{◌≡◌, refl}
use mathlib.Core.Bool.{◌&&◌}
use Prim.Native.Nat.{◌%◌}
use lib.Dec.{eqb}
use Rattle.words.specs.Below.{join_below}
use Rattle.text.specs.Text.{ascii, digits, decimal}
use Rattle.unit.specs.Table.{Table}
use Rattle.drawing.specs.Tables.{head_text, row_text, table_text}

-- the function 1 has marks of segment 1 in the columns 1 and 3, of segment 2 in column 2, and so on
abbrev pub small : Table
small q s c = eqb q 1 && eqb (s % 2) (c % 2)

pub small_table_lem : table_text small 1 2 3 ≡ ascii "     1  2  3\n  1  x  .  x\n  2  .  x  .\n"
unfolding table_text head_text row_text join_below digits decimal
small_table_lem = refl

-- a number of two digits takes one space less
pub tenth_row : row_text small 1 2 10 ≡ ascii " 10  .  x\n"
unfolding row_text join_below digits decimal
tenth_row = refl
