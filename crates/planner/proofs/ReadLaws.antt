-- What a read hands out, by its answer. Assumes nothing.
use Rattle.std.proofs.Common.{Ok, Err}
use mathlib.Core.Path.{◌≡◌, refl, sym, ap}
use Rattle.unit.specs.declared.Plan.{Plan}
use Rattle.unit.specs.declared.FunctionUnit.{FunctionUnit}
use Rattle.unit.specs.declared.Refusal.{Refusal}
use Rattle.unit.specs.Answers.{Answer}
use Rattle.planner.specs.Plans.{handing, read_answer, read_of}
use Rattle.planner.proofs.SearchLaws.{never_planned}

pub handing_refused : {why : Refusal} (a : Answer) (p : Plan) → handing a p ≡ Err why → a ≡ Err why
handing_refused (Ok _) p e = never_planned (sym e)
handing_refused {why} (Err other) p e = let same : other ≡ why = cc in ap Err same

pub handing_done : {x : Plan} (a : Answer) (p : Plan) → handing a p ≡ Ok x → (a ≡ Ok tt) × (p ≡ x)
handing_done (Ok _) p e = (refl, cc)
handing_done (Err why) p e = never_planned e

module _ (u : FunctionUnit) where
  pub read_refused : {why : Refusal} → read_of u ≡ Err why → read_answer u ≡ Err why
  unfolding read_of
  read_refused e = handing_refused (read_answer u) u.plan e

  pub read_done : {p : Plan} → read_of u ≡ Ok p → (read_answer u ≡ Ok tt) × (u.plan ≡ p)
  unfolding read_of
  read_done e = handing_done (read_answer u) u.plan e
