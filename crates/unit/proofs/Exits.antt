-- What a `?` hands on: the refusal of the call.
use Rattle.std.proofs.Common.{◌≡◌, Result, Err, ap, ◌∙◌}
use Rattle.std.specs.Result.{IsErrAnd}
use Rattle.std.proofs.lemmas.Result.{err_from_is_err_and}
use Rattle.unit.specs.declared.Refusal.{Refusal}

pub handed_on : {T : Type 0} {r x : Result T Refusal} {why : Refusal} → IsErrAnd r (λ e. e ≡ why) → Err why ≡ x → r ≡ x
handed_on {r = r} h e = let p = err_from_is_err_and r h in p.1 ∙ ap Err p.2 ∙ e
