-- The unit of a number: it is sound, and its table is the number's. Assumes nothing.
use Rattle.std.proofs.Common.{Ok, Err}
use Prim.Native.Nat.{ℕ, ◌≤◌, ◌<◌}
use mathlib.Core.Path.{◌≡◌, refl, ap}
use mathlib.Core.Bool.{Bool, true, false, cond, ◌&&◌}
use native.Mathlib.Omega.{arith}
use lib.Dec.{ltb}
use borrow.Author.Tests.{ltb-true, lt-ltb, le-ltb}
use Rattle.words.proofs.Tests.{and_left, and_right}
use Rattle.unit.specs.declared.Refusal.TheVariants.{NoSmallTable}
use Rattle.unit.specs.Unit.{sound_of, marked}
use Rattle.unit.specs.Calls.{check, tag_answer, outcome, blank, unit_of}
use Rattle.unit.proofs.Laws.{check_ok}
use Rattle.unit.proofs.TableLaws.{InCounts, unit_of_table, unit_of_sound}
use Rattle.table_numbers.specs.Tables.{small_size, table_count, count_answer, small_table, small_table_answer, small_table_of}
use Rattle.table_numbers.specs.Inner.{Sized}
use Rattle.table_numbers.proofs.NumberLaws.{small_mark}
use Rattle.table_numbers.proofs.FillLaws.{sized, counts_good, size_inside}

-- an accepted number is one of a small table
pub record Accepted (s c n : ℕ) : Type 0 where
  pub size : Sized s c
  pub below : n < table_count s c

pub table_accepted : (s c n : ℕ) → small_table_answer s c n ≡ Ok tt → Accepted s c n
unfolding small_table_answer
table_accepted s c n e =
    let ok = check_ok (small_size s c && ltb n (table_count s c)) NoSmallTable (Ok tt) e in
    record { size = sized s c (and_left (small_size s c) _ ok); below = ltb-true n (table_count s c) (and_right (small_size s c) _ ok) }

pub table_done : (s c n : ℕ) → small_size s c ≡ true → n < table_count s c → small_table_answer s c n ≡ Ok tt
unfolding small_table_answer
table_done s c n e l = simp (e, lt-ltb n (table_count s c) l)

-- the numbers with a table are those below the count of the size
pub number_below : (s c n : ℕ) → n < count_answer s c → (Ok tt) ≡ small_table_answer s c n
unfolding small_table_answer
number_below s c n l = go (small_size s c) l
  where
    go : (b : Bool) → n < cond b (table_count s c) 0 → (Ok tt) ≡ check (b && ltb n (table_count s c)) NoSmallTable (Ok tt)
    go true h = simp (lt-ltb n (table_count s c) h)
    go false h = absurd (omega arith)

pub number_beyond : (s c n : ℕ) → count_answer s c ≤ n → Err NoSmallTable ≡ small_table_answer s c n
unfolding small_table_answer
number_beyond s c n l = go (small_size s c) l
  where
    go : (b : Bool) → cond b (table_count s c) 0 ≤ n → Err NoSmallTable ≡ check (b && ltb n (table_count s c)) NoSmallTable (Ok tt)
    go true h = simp (le-ltb n (table_count s c) h)
    go false h = refl

-- what the call answers for a number of a size
pub table_made : (s c n : ℕ) → small_size s c ≡ true → n < table_count s c → small_table_of s c n ≡ record { answer = (Ok tt); unit = unit_of 1 s c (small_table s c n) }
unfolding small_table_of
table_made s c n e l = ap (λ a. outcome a (blank 0 0 0) (unit_of 1 s c (small_table s c n))) (table_done s c n e l)

module _ {s c : ℕ} (m : Sized s c) (n : ℕ) where
  small_inside : InCounts 1 s c (small_table s c n)
  small_inside = size_inside m n (small_table s c n) (λ q r k e. (small_mark s c n q r k e).0)

  pub table_sound : sound_of (unit_of 1 s c (small_table s c n)) ≡ true
  table_sound = unit_of_sound 1 s c (small_table s c n) (counts_good m n) small_inside

  pub table_marked : marked (unit_of 1 s c (small_table s c n)) ≡ small_table s c n
  table_marked = unit_of_table 1 s c (small_table s c n) (λ q r k e. (small_inside q r k e).0)

  -- it is a unit with function 1
  pub table_tag : tag_answer (unit_of 1 s c (small_table s c n)) 1 ≡ Ok tt
  unfolding tag_answer unit_of
  table_tag = simp table_sound
