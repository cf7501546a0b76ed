-- The functions of a unit, whose lines are written one function after the other. Assumes nothing.
use Prim.Native.Nat.{ℕ, ◌+◌, ◌≤◌, ◌<◌}
use mathlib.Core.Path.{◌≡◌, refl, sym, ap}
use mathlib.Core.Bool.{true, cond}
use mathlib.Core.Logic.{◌⊎◌, inl, inr}
use mathlib.Core.List.{List, []}
use native.Mathlib.Omega.{arith}
use native.Mathlib.Nat.{eq-or-lt_of_le}
use borrow.Author.Tests.{eq-eqb, ne_eqb}
use lib.Dec.{leb, eqb}
use lib.ListN.{length}
use Rattle.words.specs.Below.{join_below}
use Rattle.unit.specs.declared.FunctionUnit.{FunctionUnit}
use Rattle.unit.specs.Unit.{inside, marked, sound_of}
use Rattle.unit.proofs.Laws.{within, inside_of, sound_has}
use Rattle.diagram.specs.Answers.{states_of}
use Rattle.planner.specs.Plans.{Best}
use Rattle.listing.specs.Lines.{function_text}
use Rattle.listing.specs.Inner.{Function, Told, ToldAll}
use Rattle.text.proofs.BoundedLaws.{put_as, put_join_start, put_join_more}
use Rattle.words.proofs.JoinLaws.{join_same}

pub functions_few : (u : FunctionUnit) → sound_of u ≡ true → u.functions ≤ 4
functions_few u s = (within u.functions 4 (sound_has u s).functions).most

pub next_function : {u : FunctionUnit} (n : ℕ) → sound_of u ≡ true → n < u.functions → Function u (n + 1)
next_function {u} n s h = record { sound = s; tag = inside_of (n + 1) u.functions (omega arith) (omega arith) }

abbrev texts : FunctionUnit → (ℕ → List ℕ) → ℕ → List ℕ
texts u cycles i = function_text (marked u) (i + 1) (cycles (i + 1))

pub told_start : (u : FunctionUnit) (before : List ℕ) → ToldAll u 0 before before 0
told_start u before = record {
  cycles = λ q. [];
  best = λ q h. let w = within q 0 h in absurd (omega arith);
  put = put_join_start 2222 (texts u (λ q. [])) (omega arith);
}

module _ {u : FunctionUnit} {n : ℕ} {before mid : List ℕ} {e : ℕ} {after : List ℕ} {end : ℕ}
    (all : ToldAll u n before mid e) (one : Told 2222 (function_text (marked u) (n + 1)) u (n + 1) mid e after end) where
  -- the cycles so far, and the next function's
  cycles : ℕ → List ℕ
  cycles q = cond (eqb q (n + 1)) one.cycle (all.cycles q)

  cycles_next : (q : ℕ) → q ≡ n + 1 → cycles q ≡ one.cycle
  unfolding cycles
  cycles_next q h = rw (eq-eqb q (n + 1) h)

  cycles_before : (q : ℕ) → q < n + 1 → cycles q ≡ all.cycles q
  unfolding cycles
  cycles_before q h = rw (ne_eqb q (n + 1) (λ i. omega arith))

  cycles_best : (q : ℕ) → inside q (n + 1) ≡ true → leb (length (states_of 1 (marked u) q)) 256 ≡ true → Best 1 (marked u) q (cycles q)
  cycles_best q h few = go (eq-or-lt_of_le (within q (n + 1) h).most)
    where
      go : (q ≡ n + 1) ⊎ (q < n + 1) → Best 1 (marked u) q (cycles q)
      go (inl i) = rw (cycles_next q i, i) (one.best (rw i at few))
      go (inr l) = rw (cycles_before q l) (all.best q (inside_of q n (within q (n + 1) h).least (omega arith)) few)

  texts_before : join_below n (texts u all.cycles) ≡ join_below n (texts u cycles)
  texts_before = join_same n (texts u all.cycles) (texts u cycles) (λ k h. ap (function_text (marked u) (k + 1)) (sym (cycles_before (k + 1) (omega arith))))

  texts_next : function_text (marked u) (n + 1) one.cycle ≡ texts u cycles n
  texts_next = ap (function_text (marked u) (n + 1)) (sym (cycles_next (n + 1) refl))

  pub told_more : ToldAll u (n + 1) before after end
  told_more = record {
    cycles = cycles;
    best = cycles_best;
    put = put_join_more 2222 n (texts u cycles) (put_as all.put texts_before (omega arith)) (put_as one.put texts_next (omega arith));
  }
