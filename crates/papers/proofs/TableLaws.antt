-- A table that is given by lists is bounded where its lists are. Assumes nothing.
use mathlib.Core.Path.{◌≡◌}
use mathlib.Core.Bool.{Bool, true, ◌&&◌}
use mathlib.Core.List.{List, []}
use Prim.Native.Nat.{ℕ, ◌-◌, ◌≤◌, ◌<◌}
use native.Mathlib.Omega.{arith}
use lib.Dec.{leb}
use lib.ListN.{length, get_or}
use borrow.Author.Tests.{leb-true}
use Rattle.words.proofs.Tests.{and_left, and_right}
use Rattle.unit.specs.Unit.{inside}
use Rattle.collision.specs.Meaning.{Bounded}
use Rattle.papers.specs.Rows.{table_of}
use Rattle.papers.proofs.TestLaws.{all, all_at, all_has}

-- all columns of a segment are from 1 to 32
abbrev pub good_columns : List ℕ → Bool
good_columns columns = all (λ c. inside c 32) columns

-- those of every segment, of which there are at most 16
abbrev pub good_segments : List (List ℕ) → Bool
good_segments segments = leb (length segments) 16 && all good_columns segments

-- x, one of 1 to n, is an index of n elements
index : (x n : ℕ) → inside x n ≡ true → x - 1 < n
index x n e = omega (arith, leb-true 1 x (and_left (leb 1 x) _ e), leb-true x n (and_right (leb 1 x) _ e))

-- where a mark is
record Placed (s c : ℕ) : Type 0 where
  segment16 : s ≤ 16
  column : inside c 32 ≡ true

placed : (functions : List (List (List ℕ))) → all good_segments functions ≡ true → (q s c : ℕ) → table_of functions q s c ≡ true → Placed s c
placed functions good q s c e =
    let segments = get_or functions (q - 1) [] in
    let columns = get_or segments (s - 1) [] in
    let tag = and_left (inside q (length functions)) _ e in
    let here = and_right (inside q (length functions)) _ e in
    let segment = and_left (inside s (length segments)) _ here in
    let each = all_at good_segments functions [] good (q - 1) (index q (length functions) tag) in
    let low = all_at good_columns segments [] (and_right (leb (length segments) 16) _ each) (s - 1) (index s (length segments) segment) in
    record {
      segment16 = omega (arith, leb-true s (length segments) (and_right (leb 1 s) _ segment), leb-true (length segments) 16 (and_left (leb (length segments) 16) _ each));
      column = all_has (λ x. inside x 32) columns low c (and_right (inside s (length segments)) _ here);
    }

pub table_bounded : (functions : List (List (List ℕ))) → all good_segments functions ≡ true → Bounded (table_of functions)
table_bounded functions good = record {
  segment_lt = λ q s c e. omega (arith, (placed functions good q s c e).segment16);
  column_lt = λ q s c e. omega (arith, leb-true c 32 (and_right (leb 1 c) _ (placed functions good q s c e).column));
  column_least = λ q s c e. leb-true 1 c (and_left (leb 1 c) _ (placed functions good q s c e).column);
}
