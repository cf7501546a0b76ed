-- The word of a column: how it is put together segment by segment, and that it has the file's marks. Assumes nothing.
use Prim.Native.Nat.{ℕ, ◌+◌, ◌-◌, ◌*◌, ◌^◌, ◌≤◌, ◌<◌}
use mathlib.Core.Path.{◌≡◌, refl, sym, ◌∙◌}
use mathlib.Core.Bool.{Bool, true, false, ◌&&◌}
use mathlib.Core.List.{List}
use native.Mathlib.Nat.{lt_of_lt_of_le}
use native.Mathlib.Omega.{arith}
use lib.Pow.{pow_mono}
use Rattle.words.specs.Bits.{is_set, set_bit}
use Rattle.words.specs.Below.{word_below}
use Rattle.words.proofs.Tests.{and_left, and_right, and_true, same_test}
use Rattle.words.proofs.BitLaws.{set_below}
use Rattle.words.proofs.BelowLaws.{word_lt, word_set, word_one, word_none}
use Rattle.unit.specs.Unit.{inside}
use Rattle.unit.proofs.Laws.{within, inside_of}
use Rattle.unit_file.specs.File.{offset_of}
use Rattle.unit_file.specs.Read.{word32, functions_in, segments_in, file_table}
use Rattle.unit_file.specs.InnerRead.{Counted, TagIn, ColumnIn, column_word}
use Rattle.unit_file.proofs.ReadLaws.{file_mark, mark_file}

-- the marks in column c of the first n segments of the table at a place
abbrev pub column_up_to : List ℕ → ℕ → ℕ → ℕ → ℕ
column_up_to file at c n = word_below n (λ i. is_set (word32 file (at + 4 * i)) (c - 1))

pub column_start : (file : List ℕ) (at c : ℕ) → 0 ≡ column_up_to file at c 0
unfolding word_below
column_start file at c = refl

-- one segment more: its bit is set, or it is 0
pub column_set : (file : List ℕ) (at c i : ℕ) → i < 32 → is_set (word32 file (at + 4 * i)) (c - 1) ≡ true
    → set_bit (column_up_to file at c i) i ≡ column_up_to file at c (i + 1)
column_set file at c i h e = word_one i (λ j. is_set (word32 file (at + 4 * j)) (c - 1)) h e

pub column_unset : (file : List ℕ) (at c i : ℕ) → is_set (word32 file (at + 4 * i)) (c - 1) ≡ false
    → column_up_to file at c i ≡ column_up_to file at c (i + 1)
column_unset file at c i e = word_none i (λ j. is_set (word32 file (at + 4 * j)) (c - 1)) e

pub column_small : (file : List ℕ) (at c n : ℕ) → n ≤ 16 → column_up_to file at c n < 2 ^ 16
column_small file at c n h = lt_of_lt_of_le (word_lt n (λ i. is_set (word32 file (at + 4 * i)) (c - 1))) (pow_mono h)

pub column_end : (file : List ℕ) (k c : ℕ) → column_up_to file (offset_of (functions_in file) (segments_in file) k) c (segments_in file) ≡ column_word file k c
unfolding column_word
column_end file k c = refl

pub column_word_lt : (file : List ℕ) (k c : ℕ) → column_word file k c < 2 ^ segments_in file
unfolding column_word
column_word_lt file k c = word_lt (segments_in file) (λ i. is_set (word32 file (offset_of (functions_in file) (segments_in file) k + 4 * i)) (c - 1))

-- it has the file's marks
pub column_word_bit : (file : List ℕ) → Counted file → (k c : ℕ) → TagIn file k → ColumnIn file c → (y : ℕ)
    → inside y 16 && is_set (column_word file k c) (y - 1) ≡ file_table file k y c
unfolding column_word
column_word_bit file n k c t l y = same_test (inside y 16 && is_set (column_word file k c) (y - 1)) (file_table file k y c) there back
  where
    bit : ℕ → Bool
    bit i = is_set (word32 file (offset_of (functions_in file) (segments_in file) k + 4 * i)) (c - 1)

    there : inside y 16 && is_set (column_word file k c) (y - 1) ≡ true → file_table file k y c ≡ true
    there e =
        let i = within y 16 (and_left (inside y 16) _ e) in
        let b = and_right (inside y 16) _ e in
        let s = set_below (column_word file k c) (segments_in file) (y - 1) (column_word_lt file k c) b in
        mark_file file k y c (record {
          tag = omega arith;
          segment = omega arith;
          column = omega (arith, n.columns32);
          set = sym (word_set (segments_in file) bit (y - 1) s) ∙ b;
        })

    back : file_table file k y c ≡ true → inside y 16 && is_set (column_word file k c) (y - 1) ≡ true
    back e =
        let m = file_mark file k y c e in
        let g = m.segment in
        and_true (inside_of y 16 g.least (omega (arith, n.segments16))) (word_set (segments_in file) bit (y - 1) (omega arith) ∙ m.set)
