-- The node to which a permitted latency leads, by the index; and which latencies the next 0 of a state permits. Assumes nothing.
use mathlib.Core.Path.{◌≡◌, refl, sym, ap, subst, ◌∙◌}
use mathlib.Core.Bool.{Bool, true, false}
use mathlib.Core.List.{List}
use Prim.Native.Nat.{ℕ, ◌+◌, ◌-◌, ◌/◌, ◌%◌, ◌^◌, ◌≤◌, ◌<◌}
use native.Mathlib.Nat.{mod-eq_of_lt, lt_of_lt_of_le}
use native.Mathlib.Omega.{arith}
use lib.Bits.{bit_or}
use lib.ListN.{length}
use lib.Pow.{pow_mono}
use Rattle.words.specs.Bits.{is_set, zero_from}
use Rattle.words.proofs.Tests.{nowhere}
use Rattle.words.proofs.BitLaws.{unset_zero}
use Rattle.words.proofs.ZeroLaws.{zero_most, zero_clear}
use Rattle.diagram.specs.Diagram.{next, Permits}
use Rattle.diagram.specs.Work.{state_in, place_in}
use Rattle.diagram.proofs.IndexLaws.{place_listed, place_some}
use Rattle.mean_cycle.specs.declared.search.Graph.{Graph}
use Rattle.mean_cycle.specs.Nodes.{Leads, arc_word, Arc}
use Rattle.mean_cycle.specs.Inner.{Source, Listing}

-- the latency of the next column that is 0 is permitted, if it is at most n + 1
pub next_permits : {w : List ℕ} {G : Graph} {v r : ℕ} (k : ℕ) → Listing w G → v < G.nodes → r ≡ zero_from (state_in w v) k + 1 → r ≤ G.width + 1
    → Permits 1 G.width (state_in w v) r
next_permits {w} {G} {v} {r} k h inside e le =
    let f : r - 1 ≡ zero_from (state_in w v) k = omega arith in
    let narrow : G.width ≤ 32 = omega (arith, h.narrow) in
    let small : state_in w v < 2 ^ 32 = lt_of_lt_of_le (h.below v inside) (pow_mono narrow) in
    record {
      positive = omega arith;
      spaced = omega arith;
      small = omega arith;
      free = λ m. unset_zero (state_in w v) (r - 1) (ap (is_set (state_in w v)) f ∙ zero_clear (state_in w v) k small);
    }

-- and so it is for a column up to n, since a state has no 1 beyond
pub least_permits : {w : List ℕ} {G : Graph} {v k r : ℕ} → Listing w G → v < G.nodes → k ≤ G.width → r ≡ zero_from (state_in w v) k + 1
    → Permits 1 G.width (state_in w v) r
least_permits {w} {G} {v} {k} h inside le e = next_permits k h inside e (omega (arith, zero_most (state_in w v) G.width k (h.below v inside)))

-- a latency leads from a node to one node
pub arc_same : {w : List ℕ} {G : Graph} {v t x y : ℕ} → Listing w G → Arc w G v t x → Arc w G v t y → x ≡ y
arc_same {w} {G} {v} {t} {x} {y} h a b = go G.table h.source a.leads b.leads
  where
    go : (m : Bool) → Source m w G → Leads m w G v t x → Leads m w G v t y → x ≡ y
    go true s p q = sym p ∙ q
    go false s p q = s.apart x y a.enters b.enters (p ∙ sym q)

module _ (w : List ℕ) (G : Graph) (v t : ℕ) (h : Listing w G) (inside : v < G.nodes) (permits : Permits 1 G.width (state_in w v) t) where
  -- the node to which t leads, whatever tells it
  arc_to : (x : ℕ) → x < G.nodes → Leads G.table w G v t x → Arc w G v t x
  arc_to x l e = record { leaves = inside; enters = l; permits = permits; high = omega (arith, h.narrow, permits.small); leads = e }

  -- there is one
  pub arc_some : (x : ℕ) × Arc w G v t x
  arc_some = go G.table h.source arc_to
    where
      go : (m : Bool) → Source m w G → ((x : ℕ) → x < G.nodes → Leads m w G v t x → Arc w G v t x) → (x : ℕ) × Arc w G v t x
      go true s f = (arc_word w v t, f (arc_word w v t) (s.closed v t inside permits) refl)
      go false s f = let x = s.closed v t inside permits in (x.0, f x.0 x.1.0 x.1.1)

  -- by the table
  pub table_arc : (r : ℕ) → G.table ≡ true → r ≡ arc_word w v t → Arc w G v t r
  table_arc r e p = go G.table e h.source arc_to
    where
      go : (m : Bool) → m ≡ true → Source m w G → ((x : ℕ) → x < G.nodes → Leads m w G v t x → Arc w G v t x) → Arc w G v t r
      go true e s f = f r (subst (λ (z : ℕ). z < G.nodes) (sym p) (s.closed v t inside permits)) (sym p)
      go false e s f = nowhere e

  pub table_room : G.table ≡ true → 9984 ≤ length w
  table_room e = go G.table e h.source
    where
      go : (m : Bool) → m ≡ true → Source m w G → 9984 ≤ length w
      go true e s = s.room
      go false e s = nowhere e

  -- the next state is listed, at the place that the index tells
  target_next : G.table ≡ false → Arc w G v t (place_in w G.nodes (next G.vector (state_in w v) t))
  target_next e = go G.table e h.source arc_to
    where
      s : ℕ
      s = next G.vector (state_in w v) t

      go : (m : Bool) → m ≡ false → Source m w G → ((x : ℕ) → x < G.nodes → Leads m w G v t x → Arc w G v t x) → Arc w G v t (place_in w G.nodes s)
      go true e z f = nowhere (sym e)
      go false e z f =
          let x = z.closed v t inside permits in
          let listed : place_in w G.nodes s < G.nodes = place_some w G.nodes z.index s x.0 x.1.0 x.1.1 in
          f (place_in w G.nodes s) listed (place_listed w G.nodes z.index s listed)

  pub target_arc : (shifted r : ℕ) → G.table ≡ false → shifted ≡ state_in w v / 2 ^ (t % 64) → r ≡ place_in w G.nodes (bit_or shifted G.vector) → Arc w G v t r
  target_arc shifted r b e p =
      let f : t % 64 ≡ t = mod-eq_of_lt (omega (arith, h.narrow, permits.small)) in
      let q : r ≡ place_in w G.nodes (next G.vector (state_in w v) t) =
      p ∙ ap (λ (z : ℕ). place_in w G.nodes (bit_or z G.vector)) (e ∙ ap (λ (z : ℕ). state_in w v / 2 ^ z) f)
      in
      subst (λ (z : ℕ). Arc w G v t z) (sym q) (target_next b)
