-- The lines of a function, put together from what was written one after the other. Assumes nothing.
use Prim.Native.Nat.{ℕ, ◌+◌, ◌^◌, ◌≤◌, ◌<◌}
use mathlib.Core.Path.{◌≡◌, sym, ap, ap₂, ◌∙◌}
use mathlib.Core.Bool.{true, false}
use mathlib.Core.List.{List, [], ◌++◌}
use native.Mathlib.Omega.{arith}
use lib.Dec.{leb}
use lib.ListN.{length}
use Rattle.words.proofs.Tests.{nowhere}
use Rattle.text.specs.Text.{ascii, digits, decimal, vector_text, put_in, put_end}
use Rattle.text.proofs.DecimalLaws.{decimal_length}
use Rattle.text.proofs.WroteLaws.{wrote_length}
use Rattle.unit.specs.declared.FunctionUnit.{FunctionUnit}
use Rattle.unit.specs.Table.{Table}
use Rattle.unit.specs.Unit.{marked}
use Rattle.collision.specs.Vector.{vector_word, largest_forbidden, bound_of, upper_of, constant_of}
use Rattle.collision.proofs.VectorLaws.{largest_span}
use Rattle.diagram.specs.Diagram.{width}
use Rattle.diagram.specs.Answers.{states_of}
use Rattle.cycles.specs.Greedy.{greedy_of}
use Rattle.listing.specs.Lines.{newline, number_line, cycle_line, state_lines, vector_line, bound_line, function_text}
use Rattle.text.specs.Wrote.{Put}
use Rattle.listing.specs.Inner.{Told}
use Rattle.text.proofs.BoundedLaws.{put_more, put_word, put_as}
use Rattle.listing.proofs.LineLaws.{append_line}

-- Texts

-- a number after a text
pub put_decimal : {m : ℕ} {before : List ℕ} {at : ℕ} {a mid : List ℕ} {e : ℕ} {after : List ℕ} {end : ℕ} (number : ℕ) → number < 2 ^ 32
    → Put m before at a mid e → (end ≡ put_end mid e (decimal number)) × (after ≡ put_in mid e (decimal number)) → at + m + 10 ≤ length before
    → Put (m + 10) before at (a ++ decimal number) after end
put_decimal number h p w room = put_word 10 (decimal number) p w (decimal_length number 10 (omega arith) (omega arith)) room

-- the room that is left
pub put_room : {n : ℕ} {before : List ℕ} {at : ℕ} {text after : List ℕ} {end : ℕ} (m : ℕ)
    → Put n before at text after end → at + n + m ≤ length before → end + m ≤ length after
put_room m p room = omega (arith, p.few, wrote_length p.wrote)

-- The vector and the bounds

module _ (T : Table) (q : ℕ) where
  vector_text_lem : {w : ℕ} → w ≡ vector_word T q → vector_text (width w) w ≡ vector_text (largest_forbidden T q) (vector_word T q)
  vector_text_lem e = ap (λ w. vector_text (width w) w) e ∙ ap (λ n. vector_text n (vector_word T q)) (largest_span T q)

  pub vector_line_lem : {before : List ℕ} {at : ℕ} {a : List ℕ} {i : ℕ} {b : List ℕ} {j : ℕ} {after : List ℕ} {end w : ℕ} → w ≡ vector_word T q
      → Put 7 before at (ascii "vector ") a i → Put 32 a i (vector_text (width w) w) b j
      → (end ≡ put_end b j newline) × (after ≡ put_in b j newline) → at + 40 ≤ length before → Put 40 before at (vector_line T q) after end
  vector_line_lem e p v l room =
      put_as (put_word 1 newline (put_more p v) l (omega arith) (omega arith)) (ap (λ x. ascii "vector " ++ x ++ newline) (vector_text_lem e)) (omega arith)

  pub bound_line_lem : {before : List ℕ} {at : ℕ} {mid : List ℕ} {e : ℕ} {after : List ℕ} {end bound upper : ℕ} → bound ≡ bound_of T q → upper ≡ upper_of T q
      → Put 16 before at (ascii "bound " ++ decimal bound) mid e → Put 18 mid e (ascii " upper " ++ decimal upper ++ newline) after end
      → Put 34 before at (bound_line T q) after end
  bound_line_lem {bound = bound} {upper} b v p l =
      put_as (put_more p l)
      (append_line (ascii "bound " ++ decimal bound) (ascii " upper ") (decimal upper) newline
      ∙ ap₂ (λ (x y : ℕ). ascii "bound " ++ decimal x ++ ascii " upper " ++ decimal y ++ newline) b v)
      (omega arith)

-- a word and a number
pub number_line_lem : {n : ℕ} {before : List ℕ} {at : ℕ} {after : List ℕ} {end x y : ℕ} (word : List ℕ) → x ≡ y
    → Put n before at (word ++ decimal x ++ newline) after end → Put n before at (word ++ decimal y ++ newline) after end
number_line_lem word e p = put_as p (ap (λ x. word ++ decimal x ++ newline) e) (omega arith)

-- The states

module _ {u : FunctionUnit} {q : ℕ} {before : List ℕ} {at : ℕ} where
  pub lines_many : {after : List ℕ} {end : ℕ} → leb (length (states_of 1 (marked u) q)) 256 ≡ false
      → Put 10 before at (ascii "refused 7\n") after end → Told 2108 (state_lines (marked u) q) u q before at after end
  unfolding decimal digits
  lines_many many p = record {
    cycle = [];
    best = λ few. nowhere (sym many ∙ few);
    put = put_as p (rw many) (omega arith);
  }

  pub lines_few : {a : List ℕ} {i : ℕ} {b : List ℕ} {j : ℕ} {after : List ℕ} {end : ℕ} → leb (length (states_of 1 (marked u) q)) 256 ≡ true
      → Put 18 before at (number_line "states " (length (states_of 1 (marked u) q))) a i
      → Put 1046 a i (cycle_line "greedy" (greedy_of 1 (marked u) q)) b j → Told 1044 (cycle_line "best") u q b j after end
      → Told 2108 (state_lines (marked u) q) u q before at after end
  lines_few few p g b = record {
    cycle = b.cycle;
    best = b.best;
    put = put_as (put_more (put_more p g) b.put) (rw few) (omega arith);
  }

  -- All lines

  pub function_lines : {a : List ℕ} {i : ℕ} {b : List ℕ} {j : ℕ} {c : List ℕ} {k : ℕ} {d : List ℕ} {l : ℕ} {after : List ℕ} {end : ℕ}
      → Put 20 before at (number_line "function " q) a i → Put 40 a i (vector_line (marked u) q) b j → Put 34 b j (bound_line (marked u) q) c k
      → Told 2108 (state_lines (marked u) q) u q c k d l → Put 20 d l (number_line "constant " (constant_of (marked u) q)) after end
      → Told 2222 (function_text (marked u) q) u q before at after end
  unfolding function_text
  function_lines f v b s n = record {
    cycle = s.cycle;
    best = s.best;
    put = put_more (put_more (put_more (put_more f v) b) s.put) n;
  }
