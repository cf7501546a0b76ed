-- The words that the writer computes are those of the file. Assumes nothing.
use Rattle.std.proofs.Common.{Ok, Err}
use mathlib.Core.Path.{◌≡◌, refl, sym, ap, ap₂, ◌∙◌}
use mathlib.Core.Bool.{true, false}
use mathlib.Core.List.{List, ◌++◌}
use Prim.Native.Nat.{ℕ, suc, ◌+◌, ◌-◌, ◌*◌, ◌≤◌, ◌<◌}
use native.Mathlib.Nat.{mul-le-mul_left, mul-suc}
use native.Mathlib.Omega.{arith}
use borrow.Author.Tests.{le-leb, lt-leb}
use borrow.Rule.Slice.PartMut.{mid_of, put_mid}
use lib.ListN.{length, get_or, length-append}
use Rattle.words.specs.Bits.{is_set}
use Rattle.words.proofs.BelowLaws.{word_same}
use Rattle.words.proofs.JoinLaws.{join_same}
use Rattle.unit.specs.declared.FunctionUnit.{FunctionUnit}
use Rattle.unit.specs.declared.Refusal.TheVariants.{NotSound, ShortOutput}
use Rattle.unit.specs.Table.{Table}
use Rattle.unit.specs.Unit.{marked, columns_of, sound_of}
use Rattle.unit.proofs.Laws.{within, sound_has}
use Rattle.unit.proofs.ColumnLaws.{columns_marked}
use Rattle.unit_file.specs.File.{bytes16, bytes32, offset_of, file_length, segment_word, table_bytes, offset_bytes, file_of}
use Rattle.unit_file.specs.InnerWrite.{in_front, in_from, head_bytes, Counts, after_tables, column_mark, columns_word, columns_bytes, tables_bytes}
use Rattle.unit_file.specs.Write.{unit_file, write_refusal, write_answer, write_out}
use Rattle.unit_file.proofs.FrontLaws.{part_back, front_more}
use Rattle.unit_file.proofs.FileLaws.{offsets_size}

-- the table after the first k has room
pub table_room : (f s k room : ℕ) → file_length f s ≤ room → k < f → 4 + 2 * f + 4 * s * k + 4 * s ≤ room
table_room f s k room h l =
    let m : 4 * s * suc k ≤ 4 * s * f = mul-le-mul_left (4 * s) l in
    omega (arith, mul-suc (4 * s) k)

-- it begins where its offset says
pub start_offset : (f s k : ℕ) → after_tables f s k ≡ offset_of f s (k + 1)
start_offset f s k = let e : k ≡ k + 1 - 1 = omega arith in ap (λ i. 4 + 2 * f + 4 * s * i) e

-- The lists that the loops write

-- where the table after the first k begins, as bytes
abbrev pub offset_at : ℕ → ℕ → ℕ → List ℕ
offset_at f s k = bytes16 (offset_of f s (k + 1))

-- the bytes of segment r
abbrev pub segment_bytes : List ℕ → ℕ → List ℕ
segment_bytes columns r = bytes32 (columns_word columns r)

-- the table after the first k
abbrev pub table_at : Table → ℕ → ℕ → List ℕ
table_at T s k = table_bytes T s (k + 1)

-- a table from the columns of a unit is the table of its marks
pub columns_table : (u : FunctionUnit) (q s : ℕ) → 1 ≤ q → q ≤ 4 → s ≤ 16 → columns_bytes (columns_of u q) s ≡ table_bytes (marked u) s q
unfolding columns_bytes table_bytes
columns_table u q s q1 q4 s16 =
    join_same s (λ r. bytes32 (columns_word (columns_of u q) r)) (λ r. bytes32 (segment_word (marked u) q (r + 1)))
    (λ r l. ap bytes32 (word_same 32 (column_mark (columns_of u q) r) (λ i. marked u q (r + 1) (i + 1))
    (λ i m. one r i (omega arith) m)))
  where
    one : (r i : ℕ) → r < 16 → i < 32 → is_set (get_or (columns_of u q) i 0) r ≡ marked u q (r + 1) (i + 1)
    one r i l m =
        let a : r + 1 - 1 ≡ r = omega arith in
        let b : i + 1 - 1 ≡ i = omega arith in
        sym (columns_marked u q (r + 1) (i + 1) q1 q4 (omega arith) (omega arith) (omega arith) (omega arith)
        ∙ ap₂ (λ (j k : ℕ). is_set (get_or (columns_of u q) j 0) k) b a)

-- The file's parts, one behind the other

module _ (u : FunctionUnit) (b headed part all : List ℕ) where
  pub written : 4 ≤ length headed → headed ≡ in_front (head_bytes u.functions u.segments u.columns) b
      → part ≡ in_front (offset_bytes u.functions u.segments) (mid_of 4 (length headed - 4) headed)
      → all ≡ in_from (4 + 2 * u.functions) (tables_bytes (marked u) u.segments u.functions) (put_mid 4 (length headed - 4) headed part)
      → all ≡ in_front (unit_file u) b
  unfolding file_of tables_bytes
  written h one two three =
      let head = head_bytes u.functions u.segments u.columns in
      let offsets = offset_bytes u.functions u.segments in
      let tables = tables_bytes (marked u) u.segments u.functions in
      three
      ∙ ap (in_from (4 + 2 * u.functions) tables)
      (part_back 4 offsets headed part h two ∙ ap (in_from 4 offsets) one ∙ front_more 4 head offsets b refl)
      ∙ front_more (4 + 2 * u.functions) (head ++ offsets) tables b (length-append head offsets ∙ ap (λ k. 4 + k) (offsets_size u.functions u.segments))

-- How a call ends

pub sound_counts : (u : FunctionUnit) → sound_of u ≡ true → Counts u.functions u.segments
sound_counts u e =
    let d = sound_has u e in
    record { functions = (within u.functions 4 d.functions).most; segments = (within u.segments 16 d.segments).most }

module _ (u : FunctionUnit) (b : List ℕ) where
  pub ends_unsound : sound_of u ≡ false → (Err NotSound ≡ write_answer u (length b)) × (b ≡ write_out u b)
  unfolding write_answer write_out write_refusal
  ends_unsound e = (simp e, simp e)

  pub ends_short : sound_of u ≡ true → length b < file_length u.functions u.segments
      → (Err ShortOutput ≡ write_answer u (length b)) × (b ≡ write_out u b)
  unfolding write_answer write_out write_refusal
  ends_short e h = let l = lt-leb (file_length u.functions u.segments) (length b) h in (simp (e, l), simp (e, l))

  pub ends_written : (size : ℕ) (out : List ℕ) → sound_of u ≡ true → size ≡ file_length u.functions u.segments → size ≤ length b
      → out ≡ in_front (unit_file u) b → (Ok size ≡ write_answer u (length b)) × (out ≡ write_out u b)
  unfolding write_answer write_out write_refusal
  ends_written size out e n h w =
      let l = le-leb (file_length u.functions u.segments) (length b) (omega arith) in
      (rw (e, l) (ap Ok n), rw (e, l) w)
