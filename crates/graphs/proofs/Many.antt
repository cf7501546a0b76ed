-- A graph has more than cap states exactly when the list is longer than that. Assumes nothing.
use mathlib.Core.Logic.{◌↔◌}
use Prim.Native.Nat.{ℕ, ◌<◌}
use native.Mathlib.Decide.{dec_lt}
use native.Mathlib.Omega.{arith}
use lib.ListN.{length, get_or}
use Rattle.graphs.specs.Graph.{Graph}
use Rattle.graphs.specs.States.{Tests, Right, states, More}
use Rattle.graphs.proofs.Listing.{states_distinct, states_reached, states_complete}
use Rattle.graphs.proofs.Pigeon.{distinct_fits}

module _ (cap : ℕ) (G : Graph) (S : Tests G) (right : Right G S) where
  listed_many : cap < length (states cap G S) → More cap G
  listed_many h = record {
    some = states cap G S;
    many = h;
    distinct = states_distinct G S right cap;
    reached = states_reached G S right cap;
  }

  many_listed : More cap G → cap < length (states cap G S)
  many_listed r = go (dec_lt cap (length (states cap G S)))
    where
      go : Dec (cap < length (states cap G S)) → cap < length (states cap G S)
      go (yes h) = h
      go (no h) =
          let many = r.many in
          absurd
          (omega (
            arith,
            distinct_fits G r.some (states cap G S) r.distinct
                (λ i l. states_complete G S right cap (omega arith) (get_or r.some i G.first) (r.reached i l)),
          ))

  pub too_many : More cap G ↔ (cap < length (states cap G S))
  too_many = (many_listed, listed_many)
