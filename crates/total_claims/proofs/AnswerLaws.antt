-- The call answers one thing, and is refused as a search of each of its tables is. Assumes nothing.
use Rattle.std.proofs.Common.{Ok, Err}
use Prim.Native.Nat.{ℕ, zero, suc, ◌*◌, ◌≤◌}
use mathlib.Core.Path.{◌≡◌, refl, sym, ap, ◌∙◌}
use native.Mathlib.Nat.{mul-zero, zero-mul, suc-mul, mul_assoc, mul_left_comm}
use native.Mathlib.Omega.{arith}
use Rattle.unit.specs.declared.Outcome.{Outcome}
use Rattle.unit.specs.Answers.{Answer}
use Rattle.planner.specs.Plans.{search_answer}
use Rattle.table_numbers.proofs.FillLaws.{sized}
use Rattle.table_numbers.proofs.TableLaws.{table_made}
use Rattle.table_totals.specs.Totals.{totals_answer}
use Rattle.table_totals.proofs.MeasureLaws.{search_answer_lem}
use Rattle.total_claims.specs.Claims.{OneAnswer, AsSearch, Coprime}
use Rattle.total_claims.proofs.UniqueLaws.{one_totals}

-- free are the working words and not the answer
pub one_answer : OneAnswer
one_answer s c room room' x y same p q = go (totals_answer s c room) refl
  where
    go : (r : Answer) → totals_answer s c room ≡ r → x ≡ y
    go (Ok _) e =
        let d = p.found e in
        let f = q.found (sym same ∙ e) in
        d.told ∙ ap (λ t. Ok t) (one_totals _ d.totals f.totals d.of_size f.of_size) ∙ sym f.told
    go (Err why) e = p.refused why e ∙ sym (q.refused why (sym same ∙ e))

pub as_search : AsSearch
as_search s c n room e l = ap (λ (o : Outcome). search_answer o.unit 1 room) (table_made s c n e l) ∙ search_answer_lem (sized s c e) n e room

-- in lowest terms there is no common divisor but 1
pub coprime : Coprime
coprime p q d x y h e f = go d y h.positive f (λ pos. h.least x y pos cross)
  where
    cross : x * q ≡ p * y
    cross = ap (λ z. x * z) (sym f) ∙ mul_left_comm x d y ∙ sym (mul_assoc d x y) ∙ ap (λ z. z * y) e

    go : (d y : ℕ) → 1 ≤ q → d * y ≡ q → (1 ≤ y → q ≤ y) → d ≡ 1
    go d zero pos f least = absurd (omega (arith, mul-zero d))
    go zero (suc y) pos f least = absurd (omega (arith, zero-mul (suc y)))
    go (suc zero) (suc y) pos f least = refl
    go (suc (suc k)) (suc y) pos f least =
        let l = least (omega arith) in
        absurd (omega (arith, suc-mul (suc k) (suc y), suc-mul k (suc y)))
