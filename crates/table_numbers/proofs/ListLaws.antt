-- The list of all tables of a size: its length, and the table at each place. Assumes nothing.
use Prim.Native.Nat.{ℕ, zero, suc, ◌<◌}
use mathlib.Core.Path.{◌≡◌, refl, ap, ◌∙◌}
use mathlib.Core.List.{List, [], ◌∷◌, map}
use native.Mathlib.Omega.{arith}
use lib.ListN.{length, get_or, length-map}
use Rattle.words.specs.Below.{list_below}
use Rattle.words.proofs.ListLaws.{list_length, list_at}
use Rattle.unit.specs.Table.{Table}
use Rattle.table_numbers.specs.Tables.{table_count, small_table, all_tables, nth_table}

pub tables_length : (s c : ℕ) → length (all_tables s c) ≡ table_count s c
unfolding all_tables
tables_length s c = length-map (list_below (table_count s c) (λ n. n)) (small_table s c) ∙ list_length (table_count s c) (λ n. n)

at_map : (f : ℕ → Table) (l : List ℕ) (n : ℕ) → n < length l → nth_table (map f l) n ≡ f (get_or l n 0)
at_map f [] n h = absurd (omega arith)
at_map f (x ∷ l) zero h = refl
at_map f (x ∷ l) (suc n) h = at_map f l n (omega arith)

-- at place n stands the table of number n
pub tables_at : (s c n : ℕ) → n < table_count s c → nth_table (all_tables s c) n ≡ small_table s c n
unfolding all_tables
tables_at s c n h =
    let l : n < length (list_below (table_count s c) (λ m. m)) = omega (arith, list_length (table_count s c) (λ m. m)) in
    at_map (small_table s c) (list_below (table_count s c) (λ m. m)) n l ∙ ap (small_table s c) (list_at (table_count s c) (λ m. m) n h)
