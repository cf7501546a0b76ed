-- How the judge's verdict follows from the vector's answer and from what was tried after it. Assumes nothing.
use Rattle.std.proofs.Common.{Ok, Err}
use mathlib.Core.Path.{◌≡◌, sym, ap, ◌∙◌}
use mathlib.Core.Bool.{Bool, true, false, not}
use mathlib.Core.List.{List}
use Prim.Native.Nat.{ℕ}
use Rattle.unit.specs.declared.FunctionUnit.{FunctionUnit}
use Rattle.unit.specs.declared.Refusal.{Refusal}
use Rattle.unit.specs.declared.Refusal.TheVariants.{BadCycle}
use Rattle.unit.specs.Unit.{marked}
use Rattle.collision.specs.Answers.{vector_answer}
use Rattle.collision.proofs.AnswerLaws.{vector_refused, vector_given}
use Rattle.collision.proofs.VectorLaws.{marked_bounded}
use Rattle.judge.specs.Judge.{good_cycle, meets, cycle_answer, judge_answer}
use Rattle.judge.specs.Inner.{turn_meets}
use Rattle.judge.proofs.CycleLaws.{good_cycle_lem}
use Rattle.judge.proofs.IntervalLaws.{turn_vector}

pub judge_refused : (u : FunctionUnit) (q : ℕ) (l : List ℕ) (why : Refusal) → vector_answer u q ≡ Err why
    → judge_answer u q l ≡ Err why
unfolding judge_answer cycle_answer
judge_refused u q l why e = rw (vector_refused u q why e)

pub judge_bad : (u : FunctionUnit) (q : ℕ) (l : List ℕ) (w : ℕ) → vector_answer u q ≡ Ok w → good_cycle l ≡ false
    → judge_answer u q l ≡ Err BadCycle
unfolding judge_answer cycle_answer
judge_bad u q l w e g = rw ((vector_given u q w e).done, g)

pub judge_good : (u : FunctionUnit) (q : ℕ) (l : List ℕ) (w : ℕ) (b : Bool) → vector_answer u q ≡ Ok w → good_cycle l ≡ true
    → turn_meets w l ≡ b → judge_answer u q l ≡ Ok (not b)
unfolding judge_answer cycle_answer
judge_good u q l w b e g m =
    let v = vector_given u q w e in
    let same : meets (marked u) q l ≡ b =
    sym (turn_vector (marked u) q l (marked_bounded u) (good_cycle_lem l g)) ∙ ap (λ x. turn_meets x l) v.value ∙ m in
    rw (v.done, g, same)
