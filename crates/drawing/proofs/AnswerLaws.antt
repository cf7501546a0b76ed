-- The ways that a call ends: what it answers, and the lent bytes. Assumes nothing.
use Rattle.std.proofs.Common.{Result, Ok, Err}
use mathlib.Core.Path.{◌≡◌, refl, sym, ap, ◌∙◌}
use mathlib.Core.List.{List}
use Prim.Native.Nat.{ℕ, ◌+◌, ◌*◌, ◌≤◌, ◌<◌}
use native.Mathlib.Nat.{zero-add}
use native.Mathlib.Omega.{arith}
use borrow.Author.Tests.{le-leb, lt-leb}
use lib.Dec.{leb}
use lib.ListN.{length}
use Rattle.text.specs.Wrote.{Put}
use Rattle.text.proofs.PutLaws.{placed_front}
use Rattle.unit.specs.declared.FunctionUnit.{FunctionUnit}
use Rattle.unit.specs.declared.Refusal.{Refusal}
use Rattle.unit.specs.declared.Refusal.TheVariants.{ShortOutput}
use Rattle.unit.specs.Answers.{Answer}
use Rattle.unit.specs.Unit.{marked, columns_of, SoundUnit}
use Rattle.unit.specs.Calls.{check, and_then, tag_answer}
use Rattle.unit.proofs.Laws.{tag_accepted, tag_range}
use Rattle.unit.proofs.SoundLaws.{sound_means}
use Rattle.diagram.specs.Answers.{written}
use Rattle.drawing.specs.Answers.{drawn, unit_table, table_refusal, table_answer, table_out}
use Rattle.drawing.specs.Inner.{line_length, lines_text}
use Rattle.drawing.proofs.TableLaws.{table_length, lines_same, lines_few}

-- text written from the first byte on
pub put_end_lem : {n : ℕ} {before text after : List ℕ} {end : ℕ} → Put n before 0 text after end → end ≡ length text
put_end_lem {text = text} p = p.wrote.next ∙ zero-add (length text)

pub put_area : {n : ℕ} {before text after : List ℕ} {end : ℕ} → Put n before 0 text after end → after ≡ written (Ok tt) text before
put_area {before = before} {text} p = p.wrote.bytes ∙ placed_front before text

-- a tag of a unit has passed
pub sound_unit : (u : FunctionUnit) (q : ℕ) → tag_answer u q ≡ Ok tt → SoundUnit u
sound_unit u q e = (sound_means u).0 (tag_accepted u q e).sound

abbrev pub TableEnds : FunctionUnit → ℕ → List ℕ → Result ℕ Refusal → List ℕ → Type 0
TableEnds u q bytes r after = (r ≡ table_answer u q (length bytes)) × (after ≡ table_out u q bytes)

table_ends : (u : FunctionUnit) (q : ℕ) (bytes : List ℕ) (a : Answer) → table_refusal u q (length bytes) ≡ a
    → TableEnds u q bytes (drawn a (unit_table u q)) (written a (unit_table u q) bytes)
unfolding table_answer table_out
table_ends u q bytes a e = (ap (λ x. drawn x (unit_table u q)) (sym e), ap (λ x. written x (unit_table u q) bytes) (sym e))

pub table_refused : (u : FunctionUnit) (q : ℕ) (bytes : List ℕ) (why : Refusal) → tag_answer u q ≡ Err why
    → TableEnds u q bytes (Err why) bytes
unfolding table_refusal
table_refused u q bytes why e =
    table_ends u q bytes (Err why) (ap (λ a. and_then a (check (leb (length (unit_table u q)) (length bytes)) ShortOutput (Ok tt))) e)

module _ (u : FunctionUnit) (q : ℕ) (e : tag_answer u q ≡ Ok tt) where
  -- the length that is tested
  table_size : (size : ℕ) → size ≡ line_length u.columns * (u.segments + 1) → length (unit_table u q) ≡ size
  table_size size s =
      let d = sound_unit u q e in
      table_length (marked u) q u.segments u.columns d.segments.1 d.columns.1 ∙ sym s

  -- every table is short
  pub table_suffices : length (unit_table u q) ≤ 1700
  table_suffices =
      let d = sound_unit u q e in
      omega (arith, table_size (line_length u.columns * (u.segments + 1)) refl, lines_few u.segments u.columns d.segments.1 d.columns.1)

  pub table_short : (bytes : List ℕ) (size : ℕ) → size ≡ line_length u.columns * (u.segments + 1) → length bytes < size
      → TableEnds u q bytes (Err ShortOutput) bytes
  unfolding table_refusal
  table_short bytes size s h =
      let n = table_size size s in
      table_ends u q bytes (Err ShortOutput) (simp (e, lt-leb (length (unit_table u q)) (length bytes) (omega (arith, n))))

  pub table_drawn : {n : ℕ} {after : List ℕ} {end : ℕ} {marks : List ℕ} (bytes : List ℕ) (size : ℕ) → size ≡ line_length u.columns * (u.segments + 1)
      → size ≤ length bytes → marks ≡ columns_of u q → Put n bytes 0 (lines_text marks u.segments u.columns) after end
      → TableEnds u q bytes (Ok end) after
  unfolding table_refusal
  table_drawn bytes size s h m p =
      let n = table_size size s in
      let r = table_ends u q bytes (Ok tt) (simp (e, le-leb (length (unit_table u q)) (length bytes) (omega (arith, n)))) in
      let d = sound_unit u q e in
      let t = tag_range u q e in
      let same = ap (λ w. lines_text w u.segments u.columns) m ∙ lines_same u q t.least t.most u.segments u.columns d.segments.1 d.columns.1 in
      (ap Ok (put_end_lem p ∙ ap length same) ∙ r.0, put_area p ∙ ap (λ x. written (Ok tt) x bytes) same ∙ r.1)
