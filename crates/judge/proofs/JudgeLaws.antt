-- The judge's test of 32 starts after each start of one turn is a test of all pairs of starts. Assumes nothing.
use Rattle.std.proofs.Common.{Result, Ok}
use mathlib.Core.Path.{◌≡◌, refl, sym, ap, ◌∙◌, subst}
use mathlib.Core.Bool.{Bool, true, false, cond, not}
use mathlib.Core.Logic.{◌↔◌}
use mathlib.Core.List.{List}
use Prim.Native.Nat.{ℕ, ◌+◌, ◌-◌, ◌%◌, ◌≤◌, ◌<◌}
use native.Mathlib.Nat.{mod-lt}
use native.Mathlib.Omega.{arith}
use lib.ListN.{length}
use Rattle.words.specs.Below.{some_below}
use Rattle.words.proofs.Tests.{nowhere, not_passed}
use Rattle.words.proofs.BelowLaws.{some_intro, some_elim}
use Rattle.unit.specs.Table.{Table}
use Rattle.unit.specs.declared.Refusal.{Refusal}
use Rattle.unit.specs.declared.FunctionUnit.{FunctionUnit}
use Rattle.unit.specs.Unit.{marked}
use Rattle.unit.specs.Calls.{tag_answer}
use Rattle.collision.specs.Pipeline.{Forbidden, Cycle, start_at, NeverCollides}
use Rattle.collision.specs.Vector.{collides}
use Rattle.collision.specs.Meaning.{Bounded}
use Rattle.collision.proofs.ClashLaws.{never_forbidden}
use Rattle.collision.proofs.StartLaws.{interval_turn, interval_least}
use Rattle.collision.proofs.VectorLaws.{marked_bounded, collides_means, collides_near}
use Rattle.judge.specs.Judge.{good_cycle, meets, cycle_answer, judge_answer}
use Rattle.judge.proofs.CycleLaws.{good_cycle_lem}

module _ (T : Table) (q : ℕ) (l : List ℕ) (b : Bounded T) (c : Cycle 1 l) where
  -- a start of the first turn that the test meets collides with a later one
  meets_forbids : meets T q l ≡ true → NeverCollides T q l → ⊥
  unfolding meets
  meets_forbids e never =
      let x = some_elim (length l) (λ i. some_below 32 (λ k. collides T q q (start_at l (i + k + 1) - start_at l i))) e in
      let y = some_elim 32 (λ k. collides T q q (start_at l (x.at + k + 1) - start_at l x.at)) x.passed in
      (never_forbidden T q l).0 never x.at (x.at + y.at + 1) (omega arith) ((collides_means T b q q _).0 y.passed)

  -- a forbidden interval spans less than 32 starts, and begins at a start of the first turn too
  forbidden_meets : (i j : ℕ) → i < j → Forbidden T q (start_at l j - start_at l i) → meets T q l ≡ true
  unfolding meets
  forbidden_meets i j h f =
      let sum : i + (j - i) ≡ j = omega arith in
      let place : i % length l + (j - i) ≡ i % length l + (j - i - 1) + 1 = omega arith in
      let same : start_at l j - start_at l i ≡ start_at l (i % length l + (j - i - 1) + 1) - start_at l (i % length l) =
      ap (λ k. start_at l k - start_at l i) (sym sum) ∙ interval_turn l i (j - i) ∙ ap (λ k. start_at l k - start_at l (i % length l)) place in
      let near : start_at l i + (j - i) ≤ start_at l j = subst (λ k. start_at l i + (j - i) ≤ start_at l k) sum (interval_least l c i (j - i)) in
      let few : j - i - 1 < 32 = omega (arith, collides_near T b q q _ f) in
      some_intro (length l) (λ i. some_below 32 (λ k. collides T q q (start_at l (i + k + 1) - start_at l i))) (i % length l) (mod-lt i c.nonempty)
      (some_intro 32 (λ k. collides T q q (start_at l (i % length l + k + 1) - start_at l (i % length l))) (j - i - 1) few
      (subst (λ t. collides T q q t ≡ true) same ((collides_means T b q q _).1 f)))

  -- the judge's yes is right: the test meets no collision exactly when the cycle, repeated without end, never collides
  pub judge_means : (meets T q l ≡ false) ↔ NeverCollides T q l
  judge_means = (
    (λ e. (never_forbidden T q l).1 (λ i j h f. nowhere (sym e ∙ forbidden_meets i j h f))),
    (λ never. not_passed (meets T q l) (λ e. meets_forbids e never)),
  )

-- so the judge says yes of a cycle exactly when it never collides on the unit's own marks
pub judge_yes : (u : FunctionUnit) (q : ℕ) (l : List ℕ) → tag_answer u q ≡ Ok tt → good_cycle l ≡ true
    → (judge_answer u q l ≡ Ok true) ↔ NeverCollides (marked u) q l
unfolding judge_answer cycle_answer
judge_yes u q l a g = (there, back)
  where
    means : (meets (marked u) q l ≡ false) ↔ NeverCollides (marked u) q l
    means = judge_means (marked u) q l (marked_bounded u) (good_cycle_lem l g)

    accepted : judge_answer u q l ≡ Ok (not (meets (marked u) q l))
    accepted = rw (a, g)

    clean : (b : Bool) → ◌≡◌ {A = Result Bool Refusal} (Ok (not b)) (Ok true) → b ≡ false
    clean true e = let z : ◌≡◌ {A = ℕ} 0 1 = cc in absurd (omega arith)
    clean false e = refl

    there : judge_answer u q l ≡ Ok true → NeverCollides (marked u) q l
    there e = means.0 (clean (meets (marked u) q l) (sym accepted ∙ e))

    back : NeverCollides (marked u) q l → judge_answer u q l ≡ Ok true
    back n = accepted ∙ ap (λ b. Ok (not b)) (means.1 n)
