-- The list of a size has every table of it, each once, by rising number, and the call makes each of them. Assumes nothing.
use Prim.Native.Nat.{ℕ, ◌≤◌, ◌<◌}
use mathlib.Core.Path.{◌≡◌, refl, sym, ap, ◌∙◌, subst}
use native.Mathlib.Omega.{arith}
use Rattle.unit.specs.declared.Outcome.{Outcome}
use Rattle.unit.specs.Table.{Table}
use Rattle.unit.specs.Calls.{unit_of}
use Rattle.table_numbers.specs.Tables.{table_count, small_table, number_of_table}
use Rattle.table_numbers.specs.Claims.{HasSize, StandsAt, AllTables, EachOnce, Makes, EachMade}
use Rattle.table_numbers.proofs.NumberLaws.{small_mark, number_of_small, number_below, number_bit, small_of_number}
use Rattle.table_numbers.proofs.ListLaws.{tables_length, tables_at}
use Rattle.table_numbers.proofs.FillLaws.{sized}
use Rattle.table_numbers.proofs.TableLaws.{table_made, table_sound, table_marked}

-- a place of the list is a number of the size, and the table there is the number's
pub record Numbered (s c : ℕ) (T : Table) (n : ℕ) : Type 0 where
  pub below : n < table_count s c
  pub table : small_table s c n ≡ T

pub place_number : {s c : ℕ} {T : Table} {n : ℕ} → StandsAt s c T n → Numbered s c T n
place_number {s} {c} {T} {n} l =
    let b : n < table_count s c = omega (arith, l.inside, tables_length s c) in
    record { below = b; table = sym (tables_at s c n b) ∙ l.here }

pub number_place : {s c : ℕ} {T : Table} {n : ℕ} → Numbered s c T n → StandsAt s c T n
number_place {s} {c} {T} {n} h = record { inside = omega (arith, h.below, tables_length s c); here = tables_at s c n h.below ∙ h.table }

module _ (s c : ℕ) (pos : 1 ≤ c) where
  number_is : (T : Table) (n : ℕ) → StandsAt s c T n → number_of_table s c T ≡ n
  number_is T n l =
      let h = place_number l in
      ap (number_of_table s c) (sym h.table) ∙ number_of_small s c pos n h.below

  all_tables_lem : AllTables s c
  all_tables_lem = record {
    count = tables_length s c;
    size = λ T n l. subst (HasSize s c) (place_number l).table (λ q r k e. (small_mark s c n q r k e).0);
    adds = number_bit s c pos;
    rising = number_is;
    every = λ T h. number_place (record { below = number_below s c pos T; table = small_of_number s c pos T h });
    once = λ T m n l h. sym (number_is T m l) ∙ number_is T n h;
  }

pub each_once : EachOnce
each_once s c e = all_tables_lem s c (sized s c e).columns1

pub each_made : EachMade
unfolding unit_of
each_made s c e T n l =
    let h = place_number l in
    let m = sized s c e in
    subst (λ (o : Outcome). Makes s c T o) (sym (table_made s c n e h.below)) (record {
      answer = refl;
      sound = table_sound m n;
      functions = refl;
      segments = refl;
      columns = refl;
      marks = table_marked m n ∙ h.table;
      plan = refl;
    })
