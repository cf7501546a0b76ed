-- The lines of a chart: their parts, and how many bytes they have. Assumes nothing.
use Prim.Native.Nat.{ℕ, zero, suc, ◌+◌, ◌-◌, ◌*◌, ◌/◌, ◌^◌, ◌≤◌, ◌<◌}
use mathlib.Core.Path.{◌≡◌, refl, sym, ap, ◌∙◌}
use mathlib.Core.List.{List, ◌∷◌, ◌++◌}
use native.Mathlib.Nat.{suc-add, mul-le-mul}
use native.Mathlib.Omega.{arith}
use lib.ListN.{length, get_or, take, replicate, length-append, length-replicate}
use Rattle.words.specs.Below.{list_below, join_below}
use Rattle.words.proofs.ListLaws.{list_length}
use Rattle.words.proofs.JoinLaws.{join_length}
use Rattle.text.specs.Text.{ascii, decimal}
use Rattle.text.specs.Wrote.{Wrote, Put}
use Rattle.text.proofs.DecimalLaws.{decimal_small, decimal_step, decimal_length}
use Rattle.chart.specs.Text.{at_left, at_right, line, unit_digit, busy_text, segment_line, busy, top_lines}
use Rattle.chart.specs.Inner.{top_length, line_length}
use Rattle.chart.proofs.FillLaws.{placed_before}
use Rattle.chart.proofs.DigitLaws.{digits_most}
use Rattle.chart.proofs.CellLaws.{busy_most}

-- Names

-- a number of one digit, and one of two
pub name_one : (n : ℕ) → n < 10 → decimal n ++ ascii "       " ≡ at_left 8 (decimal n)
name_one n h = rw (decimal_small n h)

pub name_two : (n : ℕ) → 10 ≤ n → n < 100 → decimal n ++ ascii "      " ≡ at_left 8 (decimal n)
name_two n l h = rw (decimal_step n l (omega arith), decimal_small (n / 10) (omega arith))

left_length : (k : ℕ) (text : List ℕ) → length text ≤ k → length (at_left k text) ≡ k
left_length k text h = omega (arith, length-append text (replicate (k - length text) 32), length-replicate {A = ℕ} (k - length text) 32)

right_length : (k : ℕ) (text : List ℕ) → length text ≤ k → length (at_right k text) ≡ k
right_length k text h = omega (arith, length-append (replicate (k - length text) 32) text, length-replicate {A = ℕ} (k - length text) 32)

-- Spaces

take_blank : (k m : ℕ) → take k (replicate {A = ℕ} (k + m) 32) ≡ replicate k 32
take_blank zero m = refl
take_blank (suc k) m = ap (λ n. take (suc k) (replicate {A = ℕ} n 32)) (suc-add k m) ∙ ap (λ l. 32 ∷ l) (take_blank k m)

pub blank_front : (k : ℕ) → k ≤ 10 → take k (replicate {A = ℕ} 10 32) ≡ replicate k 32
blank_front k h = let e : 10 ≡ k + (10 - k) = omega arith in ap (λ n. take k (replicate {A = ℕ} n 32)) e ∙ take_blank k (10 - k)

pub blank_length : (k : ℕ) → k ≤ 10 → k ≡ length (take k (replicate {A = ℕ} 10 32))
blank_length k h = sym (ap length (blank_front k h) ∙ length-replicate {A = ℕ} k 32)

-- What stands before a text that was put

pub put_before : {n : ℕ} {before : List ℕ} {at : ℕ} {text after : List ℕ} {end : ℕ} (k : ℕ) → Put n before at text after end → k < at
    → get_or after k 0 ≡ get_or before k 0
put_before {before = before} {at} {text} k p h =
    ap (λ b. get_or b k 0) p.wrote.bytes ∙ placed_before before at text k h (omega (arith, p.wrote.room))

-- a row of n bytes
pub row_put : {before : List ℕ} {at : ℕ} {after : List ℕ} {end : ℕ} (n : ℕ) (f : ℕ → ℕ) → Wrote before at (list_below n f) after end
    → Put n before at (list_below n f) after end
row_put n f w = record { wrote = w; few = omega (arith, w.next, list_length n f) }

-- Lengths

pub line_cells : (name : List ℕ) (n : ℕ) (cells : ℕ → ℕ) → length name ≤ 8 → length (line name n cells) ≡ 8 + n
line_cells name n cells h = length-append (at_left 8 name) (list_below n cells) ∙ omega (arith, left_length 8 name h, list_length n cells)

busy_length : (count n : ℕ) → n < 2 ^ 32 → count ≤ n → length (busy_text count n) ≡ 2 * length (decimal n) + 8
busy_length count n w h =
    let d = length (decimal n) in
    let r = right_length d (decimal count) (digits_most count n w h) in
    let word = ascii " busy " in
    let right = at_right d (decimal count) in
    let stroke = ascii "/" in
    let a = length-append (word ++ right ++ stroke ++ decimal n) (ascii "\n") in
    let b = length-append (word ++ right ++ stroke) (decimal n) in
    let c = length-append (word ++ right) stroke in
    let e = length-append word right in
    omega (arith, a, b, c, e, r)

segment_length : (n s : ℕ) (cells : ℕ → ℕ) → n < 2 ^ 32 → s < 100 → length (segment_line n cells s) ≡ line_length n
unfolding segment_line line_length
segment_length n s cells w h =
    length-append (line (decimal s) n cells) (busy_text (busy n cells) n)
    ∙ omega (arith, line_cells (decimal s) n cells (omega (arith, decimal_length s 2 (omega arith) (omega arith))), busy_length (busy n cells) n w (busy_most n cells))

pub lines_length : (n segments : ℕ) (cells : ℕ → ℕ → ℕ) → n < 2 ^ 32 → segments ≤ 16
    → length (join_below segments (λ s. segment_line n (cells s) (s + 1))) ≡ line_length n * segments
lines_length n segments cells w h =
    join_length segments (line_length n) (λ s. segment_line n (cells s) (s + 1)) (λ s l. segment_length n (s + 1) (cells s) w (omega arith))

-- the two lines above them
pub top_length_lem : (n : ℕ) (h : ℕ → ℕ) → length (top_lines n h) ≡ top_length n
top_length_lem n h =
    let one = line (ascii "unit") n unit_digit in
    let other = line (ascii "starts") n h in
    let a = length-append (one ++ ascii "\n" ++ other) (ascii "\n") in
    let b = length-append (one ++ ascii "\n") other in
    let c = length-append one (ascii "\n") in
    omega (arith, a, b, c, line_cells (ascii "unit") n unit_digit (omega arith), line_cells (ascii "starts") n h (omega arith))

-- Room

pub line_is : (n : ℕ) → line_length n ≡ n + 2 * length (decimal n) + 16
unfolding line_length
line_is n = refl

-- a line is short, and so are all
pub digits_few : (n : ℕ) → n < 2 ^ 32 → length (decimal n) ≤ 10
digits_few n w = decimal_length n 10 (omega arith) (omega arith)

pub lines_few : (a n segments : ℕ) → a ≤ n + 36 → n < 2 ^ 32 → segments < 256 → a * segments ≤ 4294967332 * 256
lines_few a n segments l w h =
    let long : a ≤ 4294967332 = omega arith in
    let many : segments ≤ 256 = omega arith in
    mul-le-mul long many
