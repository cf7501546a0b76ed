-- The listed diagram in the words: it stands over words that changed elsewhere, and every arc leads to a listed state. Assumes nothing.
use mathlib.Core.Path.{◌≡◌, sym, ap, subst, ◌∙◌}
use mathlib.Core.List.{List, [], ◌∷◌}
use Prim.Native.Nat.{ℕ, ◌≤◌, ◌<◌}
use native.Mathlib.Decide.{dec_lt}
use native.Mathlib.Omega.{arith}
use lib.ListN.{length, get_or, take}
use lib.Seq.{get_or-take, length-take-le, ext_get_or}
use Rattle.diagram.specs.Diagram.{width, next, Permits}
use Rattle.diagram.specs.States.{states}
use Rattle.diagram.specs.Work.{state_in, place_in}
use Rattle.diagram.proofs.IndexLaws.{index_kept, place_some, place_listed}
use Rattle.diagram.proofs.Listing.{list_extends, states_distinct, states_closed}
use Rattle.cycles.specs.Inner.{Walkable}

-- Words that changed elsewhere

pub walkable_kept : {w w' : List ℕ} {cv k : ℕ} → length w' ≡ length w → ((i : ℕ) → i < 768 → get_or w' i 0 ≡ get_or w i 0)
    → Walkable w cv k → Walkable w' cv k
walkable_kept {w} {w'} {cv} {k} size same h =
    let few = h.index.few in
    let room = h.room in
    let n : length (take k w) ≡ k = length-take-le k w (omega arith) in
    let n' : length (take k w') ≡ k = length-take-le k w' (omega arith) in
    record {
      room = omega arith;
      some = h.some;
      listed =
          ext_get_or 0 (take k w') (take k w) (n' ∙ sym n)
          (λ i l.
          let low : i < k = omega arith in
          get_or-take k w' i 0 low ∙ same i (omega arith) ∙ sym (get_or-take k w i 0 low))
          ∙ h.listed;
      index = index_kept k size same h.index;
    }

-- The states

-- r is the place of the state to which the latency t leads from the state at a place
pub record Landed (w : List ℕ) (cv k at t r : ℕ) : Type 0 where
  pub inside : r < k
  pub state : state_in w r ≡ next cv (state_in w at) t

module _ {w : List ℕ} {cv k : ℕ} (h : Walkable w cv k) where
  pub listed_number_lem : length (states 256 1 (width cv) cv) ≡ k
  listed_number_lem =
      let few = h.index.few in
      let room = h.room in
      sym (ap length h.listed) ∙ length-take-le k w (omega arith)

  pub listed_few : length (states 256 1 (width cv) cv) ≤ 256
  listed_few = omega (arith, listed_number_lem, h.index.few)

  pub listed_at : (i : ℕ) → i < k → get_or (states 256 1 (width cv) cv) i 0 ≡ state_in w i
  listed_at i l = ap (λ s. get_or s i 0) (sym h.listed) ∙ get_or-take k w i 0 l

  pub listed_first : state_in w 0 ≡ cv
  listed_first = sym (listed_at 0 h.some) ∙ (list_extends 1 (width cv) cv 257 0 (cv ∷ [])).same 0 (omega arith)

  pub listed_apart : (i j : ℕ) → i < k → j < k → state_in w i ≡ state_in w j → i ≡ j
  listed_apart i j l m e = go (dec_lt i j) (dec_lt j i)
    where
      same : get_or (states 256 1 (width cv) cv) i 0 ≡ get_or (states 256 1 (width cv) cv) j 0
      same = listed_at i l ∙ e ∙ sym (listed_at j m)

      go : Dec (i < j) → Dec (j < i) → i ≡ j
      go (yes a) b = absurd (states_distinct 1 (width cv) cv 256 i j a (omega (arith, listed_number_lem)) same)
      go (no a) (yes b) = absurd (states_distinct 1 (width cv) cv 256 j i b (omega (arith, listed_number_lem)) (sym same))
      go (no a) (no b) = omega arith

  pub arc_lands : (at t r : ℕ) → at < k → Permits 1 (width cv) (state_in w at) t → r ≡ place_in w k (next cv (state_in w at) t)
      → Landed w cv k at t r
  arc_lands at t r l p e =
      let x : ℕ = next cv (state_in w at) t in
      let q = subst (λ s. Permits 1 (width cv) s t) (sym (listed_at at l)) p in
      let f = states_closed 1 (width cv) cv 256 listed_few at (omega (arith, listed_number_lem)) t q in
      let low : f.index < k = omega (arith, listed_number_lem, f.inside) in
      let here : state_in w f.index ≡ x = sym (listed_at f.index low) ∙ f.found ∙ ap (λ s. next cv s t) (listed_at at l) in
      let some = place_some w k h.index x f.index low here in
      record { inside = omega (arith, some); state = ap (state_in w) e ∙ place_listed w k h.index x some }
