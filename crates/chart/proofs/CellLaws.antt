-- The cells of a chart, column by column and unit by unit. Assumes nothing.
use Rattle.std.proofs.Common.{Ok, Err}
use Prim.Native.Nat.{ℕ, zero, suc, ◌+◌, ◌-◌, ◌≤◌, ◌<◌}
use mathlib.Core.Path.{◌≡◌, refl, sym, ap, ap₂, ◌∙◌}
use mathlib.Core.List.{List}
use mathlib.Core.Bool.{Bool, true, false, cond, not, ◌&&◌}
use mir.Val.{bool_byte}
use native.Mathlib.Numerals.{add-one}
use native.Mathlib.Omega.{arith}
use lib.Dec.{leb, eqb}
use lib.ListN.{length, get_or}
use Rattle.words.specs.Below.{count_below, list_below}
use Rattle.words.proofs.BelowLaws.{count_most, count_more}
use Rattle.unit.specs.declared.Plan.{Plan}
use Rattle.unit.specs.declared.FunctionUnit.{FunctionUnit}
use Rattle.unit.specs.declared.Refusal.{Refusal}
use Rattle.unit.specs.Answers.{Answer}
use Rattle.unit.specs.Calls.{and_then}
use Rattle.controller.specs.declared.Bank.{Bank}
use Rattle.controller.specs.Bank.{empty}
use Rattle.simulator.specs.declared.UnitPlayed.{UnitPlayed}
use Rattle.simulator.specs.Step.{play_of}
use Rattle.simulator.specs.Play.{Place, onward, place_after, unit_after}
use Rattle.chart.specs.Cells.{none, tasks_before, start_cell, next_cell, cell_of}
use Rattle.chart.specs.Text.{busy}
use Rattle.chart.specs.Answers.{units_answer}
use Rattle.chart.specs.Inner.{start_byte, marks_in, row_in, cells_in}
use Rattle.text.specs.Text.{placed}
use Rattle.chart.proofs.FillLaws.{placed_before}

-- a test as a number
byte_is : (b : Bool) → bool_byte b ≡ cond b 1 0
byte_is true = refl
byte_is false = refl

pub byte_most : (b : Bool) → bool_byte b ≤ 1
byte_most true = omega arith
byte_most false = omega arith

-- A cell

pub cell_none : (marks : ℕ → Bool) (starts : ℕ → ℕ) (n : ℕ) → none ≡ cell_of marks starts n 0
unfolding cell_of
cell_none marks starts n = refl

pub cell_more : (marks : ℕ → Bool) (starts : ℕ → ℕ) (n c : ℕ) → cell_of marks starts n (c + 1) ≡ next_cell (marks (c + 1)) starts n c (cell_of marks starts n c)
unfolding cell_of
cell_more marks starts n c = ap (cell_of marks starts n) (add-one c)

-- it goes by the marks of the first columns, and by the starts up to its unit
pub cell_same : (a b : ℕ → Bool) (f h : ℕ → ℕ) (n k : ℕ) → ((c : ℕ) → c < k → a (c + 1) ≡ b (c + 1)) → ((i : ℕ) → i ≤ n → f i ≡ h i) → cell_of a f n k ≡ cell_of b h n k
unfolding cell_of
cell_same a b f h n zero m e = refl
cell_same a b f h n (suc c) m e =
    let s : f (n - c) ≡ h (n - c) = e (n - c) (omega arith) in
    let r = cell_same a b f h n c (λ j l. m j (omega arith)) e in
    λ i. cond (leb c n && m c (omega arith) i && not (eqb (s i) none)) (s i) (r i)

-- Units

-- a unit goes on from the place after i
pub record At (u : FunctionUnit) (p : Plan) (position : ℕ) (bank : Bank) (i : ℕ) : Type 0 where
  pub position_is : position ≡ (place_after u p i).position
  pub bank_is : bank ≡ (place_after u p i).bank

pub at_start : (u : FunctionUnit) (p : Plan) (bank : Bank) → bank ≡ empty → At u p 0 bank 0
unfolding place_after
at_start u p bank e = record { position_is = refl; bank_is = e }

pub tasks_most : (u : FunctionUnit) (p : Plan) (i : ℕ) → tasks_before u p i ≤ i
unfolding tasks_before
tasks_most u p i = count_most i (λ k. (unit_after u p k).started)

pub tasks_none : (u : FunctionUnit) (p : Plan) → 0 ≡ tasks_before u p 0
unfolding tasks_before count_below
tasks_none u p = refl

module _ (u : FunctionUnit) (p : Plan) (position : ℕ) (bank : Bank) (i : ℕ) (a : At u p position bank i) (x : UnitPlayed) (e : x ≡ play_of u p position bank) where
  pub at_step : x ≡ unit_after u p i
  at_step = e ∙ ap₂ (λ (j : ℕ) (b : Bank). play_of u p j b) a.position_is a.bank_is

  place_next : onward x ≡ place_after u p (i + 1)
  unfolding place_after
  place_next = ap onward at_step ∙ sym (ap (place_after u p) (add-one i))

  pub at_next : At u p x.position x.bank (i + 1)
  at_next = record { position_is = ap (λ (y : Place). y.position) place_next; bank_is = ap (λ (y : Place). y.bank) place_next }

  pub tasks_next : (tasks : ℕ) → tasks ≡ tasks_before u p i → tasks + bool_byte x.started ≡ tasks_before u p (i + 1)
  unfolding tasks_before
  tasks_next tasks t =
      let m = count_more i (λ k. (unit_after u p k).started) in
      let s : bool_byte x.started ≡ cond (unit_after u p i).started 1 0 = byte_is x.started ∙ ap (λ (y : UnitPlayed). cond y.started 1 0) at_step in
      omega (arith, m, s, t)

  pub start_next : (tasks byte : ℕ) → tasks ≡ tasks_before u p i → byte ≡ start_byte x.started tasks → byte ≡ start_cell u p i
  unfolding start_cell
  start_next tasks byte t b = b ∙ ap₂ (λ (y : UnitPlayed) (k : ℕ). start_byte y.started k) at_step t

-- Answers

pub units_none : (u : FunctionUnit) (p : Plan) → units_answer u p 0 ≡ Ok tt
unfolding units_answer
units_none u p = refl

pub units_more : (u : FunctionUnit) (p : Plan) (n : ℕ) → units_answer u p (n + 1) ≡ and_then (units_answer u p n) (unit_after u p n).answer
unfolding units_answer
units_more u p n = ap (units_answer u p) (add-one n)

-- a refusal stays
units_stay : (u : FunctionUnit) (p : Plan) (why : Refusal) (i d : ℕ) → units_answer u p i ≡ Err why → units_answer u p (i + d) ≡ Err why
units_stay u p why i zero e = ap (units_answer u p) (omega arith) ∙ e
units_stay u p why i (suc d) e =
    let s : i + suc d ≡ i + d + 1 = omega arith in
    ap (units_answer u p) s ∙ units_more u p (i + d) ∙ ap (λ (a : Answer). and_then a (unit_after u p (i + d)).answer) (units_stay u p why i d e)

module _ (u : FunctionUnit) (p : Plan) (n position : ℕ) (bank : Bank) (i : ℕ) (a : At u p position bank i) (d : units_answer u p i ≡ Ok tt)
    (x : UnitPlayed) (e : x ≡ play_of u p position bank) where
  one_more : units_answer u p (i + 1) ≡ x.answer
  one_more =
      units_more u p i ∙ ap (λ (b : Answer). and_then b (unit_after u p i).answer) d ∙ sym (ap (λ (y : UnitPlayed). y.answer) (at_step u p position bank i a x e))

  pub units_accepted : x.answer ≡ Ok tt → units_answer u p (i + 1) ≡ Ok tt
  units_accepted f = one_more ∙ f

  pub units_refused : i < n → (why : Refusal) → x.answer ≡ Err why → Err why ≡ units_answer u p n
  units_refused h why f =
      let s : i + 1 + (n - (i + 1)) ≡ n = omega arith in
      sym (ap (units_answer u p) (sym s) ∙ units_stay u p why (i + 1) (n - (i + 1)) (one_more ∙ f))

-- How many cells have a task

pub busy_none : (cells : ℕ → ℕ) → 0 ≡ busy 0 cells
unfolding count_below
busy_none cells = refl

pub busy_most : (n : ℕ) (cells : ℕ → ℕ) → busy n cells ≤ n
busy_most n cells = count_most n (λ i. not (eqb (cells i) none))

pub busy_more : (n : ℕ) (cells : ℕ → ℕ) (count cell : ℕ) → count ≡ busy n cells → cell ≡ cells n → count + bool_byte (not (eqb cell none)) ≡ busy (n + 1) cells
busy_more n cells count cell t e =
    let m = count_more n (λ i. not (eqb (cells i) none)) in
    let s : bool_byte (not (eqb cell none)) ≡ cond (not (eqb (cells n) none)) 1 0 =
    byte_is (not (eqb cell none)) ∙ ap (λ k. cond (not (eqb k none)) 1 0) e in
    omega (arith, m, s, t)

-- Cells written so far do not touch the row of starts

pub cells_kept : (before : List ℕ) (at n : ℕ) (f : ℕ → ℕ) (i : ℕ) (now : List ℕ) → now ≡ placed before at (list_below i f) → at ≤ length before → (from : ℕ) → from + n ≤ at → i < n
    → (marks : List ℕ) (columns segment : ℕ) → cells_in now from marks columns segment i ≡ cells_in before from marks columns segment i
cells_kept before at n f i now w room from h l marks columns segment =
    cell_same (marks_in marks segment) (marks_in marks segment) (row_in now from) (row_in before from) i columns (λ c k. refl)
    (λ j k. ap (λ b. get_or b (from + j) 0) w ∙ placed_before before at (list_below i f) (from + j) (omega arith) room)
