-- What the private functions ask and find. No public contract cites this file.
use Rattle.std.specs.Prelude.{ℕ, ◌+◌, ◌*◌, ◌^◌, ◌≤◌, ◌<◌, ◌≡◌, true, cond, List, length, get_or}
use Rattle.words.specs.Below.{count_below}
use Rattle.unit.specs.Table.{Table}
use Rattle.collision.specs.Pipeline.{total}
use Rattle.planner.specs.Plans.{Best}
use Rattle.table_numbers.specs.Tables.{small_size, table_count, nth_table}
use Rattle.table_totals.specs.declared.SizeTotals.{SizeTotals}
use Rattle.table_totals.specs.declared.Average.{Average}
use Rattle.table_totals.specs.declared.Tally.{Tally}
use Rattle.table_totals.specs.Totals.{Lowest, at_bound, TotalsOf}

-- a size with its count of tables, and enough working words
pub record Prepared (s c tables room : ℕ) : Type 0 where
  pub size : small_size s c ≡ true
  pub count : tables ≡ table_count s c
  pub words : 16000 ≤ room

-- the working words after searches
pub record Used (before words : List ℕ) : Type 0 where
  pub size : length words ≡ length before
  pub beyond : (i : ℕ) → 2048 ≤ i → get_or words i 0 ≡ get_or before i 0

-- S and K fit the code's products
pub record Fitting (sum count : ℕ) : Type 0 where
  pub some : 1 ≤ count
  pub few : count ≤ 256
  pub low : sum < 2 ^ 16

-- S and K of the best cycle of the table at a place of a list, and 1 where it is at the bound
pub record Measured (tables : List Table) (n : ℕ) (before words : List ℕ) (a : Average) : Type 0 where
  pub cycle : List ℕ
  pub best : Best 1 (nth_table tables n) 1 cycle
  pub sum : a.sum ≡ total cycle
  pub count : a.count ≡ length cycle
  pub fitting : Fitting a.sum a.count
  pub reaching : a.reaching ≡ cond (at_bound (nth_table tables n) cycle) 1 0
  pub used : Used before words

-- the first n tables of a list: how many are at the bound, and the first of the largest average
pub record TalliedBy (tables : List Table) (n : ℕ) (best : ℕ → List ℕ) (t : Tally) : Type 0 where
  pub bests : (m : ℕ) → m < n → Best 1 (nth_table tables m) 1 (best m)
  pub reaching : t.reaching ≡ count_below n (λ m. at_bound (nth_table tables m) (best m))
  pub inside : t.first < n
  pub sum : t.sum ≡ total (best t.first)
  pub count : t.count ≡ length (best t.first)
  pub fitting : Fitting t.sum t.count
  pub largest : (m : ℕ) → m < n → total (best m) * t.count ≤ t.sum * length (best m)
  pub earlier : (m : ℕ) → m < t.first → total (best m) * t.count < t.sum * length (best m)

pub record Tallied (tables : List Table) (n : ℕ) (t : Tally) : Type 0 where
  pub best : ℕ → List ℕ
  pub by : TalliedBy tables n best t

-- what is added fits the code's numbers
pub record Addable (t : Tally) (a : Average) : Type 0 where
  pub tally : Fitting t.sum t.count
  pub average : Fitting a.sum a.count
  pub few : t.reaching < 4096
  pub one : a.reaching < 2

-- the table at another place, beside those so far
pub record Added (t : Tally) (a : Average) (n : ℕ) (r : Tally) : Type 0 where
  pub larger : t.sum * a.count < a.sum * t.count
      → r ≡ record { reaching = t.reaching + a.reaching; sum = a.sum; count = a.count; first = n }
  pub other : a.sum * t.count ≤ t.sum * a.count
      → r ≡ record { reaching = t.reaching + a.reaching; sum = t.sum; count = t.count; first = t.first }

-- p / q is S / K in lowest terms
pub record Reduced (sum count p q : ℕ) : Type 0 where
  pub same : sum * q ≡ p * count
  pub lowest : Lowest p q

-- the totals of the size, and the working words
pub record TotalsFound (s c : ℕ) (before words : List ℕ) (t : SizeTotals) : Type 0 where
  pub totals : TotalsOf s c t
  pub used : Used before words
