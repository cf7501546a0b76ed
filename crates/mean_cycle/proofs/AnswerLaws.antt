-- What the search answers: where it says no, and that a listed diagram is what the search works on. Assumes nothing.
use Rattle.std.proofs.Common.{Some, None}
use mathlib.Core.Path.{◌≡◌, refl, sym, ap, subst, ◌∙◌}
use mathlib.Core.Bool.{Bool, true, false, cond, ◌&&◌}
use mathlib.Core.List.{List, [], ◌∷◌}
use Prim.Native.Nat.{ℕ, ◌^◌, ◌≤◌, ◌<◌}
use native.Mathlib.Decide.{dec_le}
use native.Mathlib.Omega.{arith}
use lib.Dec.{leb}
use lib.ListN.{length, get_or}
use lib.Seq.{get_or-take}
use borrow.Author.Tests.{lt-ltb, le-ltb, le-leb, lt-leb}
use Rattle.words.proofs.Tests.{nowhere}
use Rattle.diagram.specs.Diagram.{width, next, Permits, Reachable}
use Rattle.diagram.specs.States.{states}
use Rattle.diagram.specs.Cycles.{CycleFrom}
use Rattle.diagram.specs.Work.{state_in, enlist_answer, Enlisted}
use Rattle.diagram.proofs.WidthLaws.{width_31}
use Rattle.diagram.proofs.StateLaws.{states_width}
use Rattle.diagram.proofs.Listing.{list_extends, states_distinct, states_reached, states_closed}
use Rattle.mean_cycle.specs.declared.Cycle.{Cycle}
use Rattle.collision.specs.Pipeline.{total}
use Rattle.mean_cycle.specs.Mean.{found, LeastMean, searchable, is_found, Searched}
use Rattle.mean_cycle.specs.Nodes.{Least, cyc}
use Rattle.mean_cycle.specs.Inner.{Listing}
use Rattle.mean_cycle.proofs.Links.{decide}
use Rattle.mean_cycle.proofs.Bounds.{walk_nodes}
use Rattle.mean_cycle.proofs.Cycles.{ruled, spell, cycle_spell, total_spell, cycle_from, cycle_begins}

-- how many states there are, by what enlist answers
abbrev size : ℕ → ℕ
size cv = length (states 256 1 (width cv) cv)

states_some : (cv : ℕ) → 1 ≤ size cv
states_some cv = (list_extends 1 (width cv) cv 257 0 (cv ∷ [])).longer

answer_few : (room cv : ℕ) → 2048 ≤ room → size cv ≤ 256 → enlist_answer room 1 cv ≡ size cv
unfolding enlist_answer
answer_few room cv h l = rw (le-leb 768 room (omega arith), le-leb (size cv) 256 l)

answer_many : (room cv : ℕ) → 256 < size cv → enlist_answer room 1 cv ≡ 0
unfolding enlist_answer
answer_many room cv l = rw (lt-leb (size cv) 256 l) (go (leb 768 room))
  where
    go : (b : Bool) → cond (b && false) (size cv) 0 ≡ 0
    go true = refl
    go false = refl

-- No

no_cycle : {P : Type 0} {c : Cycle} → None ≡ Some c → P
no_cycle e = nowhere (ap is_found e)

unsearched : (cv : ℕ) (w : List ℕ) → false ≡ searchable (length w) 1 cv → Searched 1 cv w w None
unsearched cv w e =
    record {
      answer = e;
      least = λ c f. no_cycle f;
      size = refl;
      beyond = λ i l. refl;
      short = λ l. refl;
      wide = λ l. refl;
    }

pub searched_short : (cv : ℕ) (w : List ℕ) → length w < 2048 → Searched 1 cv w w None
unfolding searchable
searched_short cv w h = unsearched cv w (rw (lt-leb 2048 (length w) h))

pub searched_wide : (cv : ℕ) (w : List ℕ) → 2147483648 ≤ cv → Searched 1 cv w w None
unfolding searchable
searched_wide cv w h = unsearched cv w (rw (le-ltb cv 2147483648 h) (go (leb 2048 (length w))))
  where
    go : (b : Bool) → false ≡ b && false
    go true = refl
    go false = refl

module _ (cv : ℕ) (before w : List ℕ) (r : ℕ) (room : 2048 ≤ length before) (low : cv < 2147483648) (h : Enlisted 1 cv before w r) where
  pub searched_many : r ≡ 0 → Searched 1 cv before w None
  unfolding searchable
  searched_many z =
      let many : 256 < size cv =
      decide
      (dec_le (size cv) 256)
      (λ l. let e : r ≡ size cv = h.answer ∙ answer_few (length before) cv room l in absurd (omega (arith, states_some cv)))
      (λ n. omega arith)
      in
      record {
        answer = rw (le-leb 2048 (length before) room, lt-ltb cv 2147483648 low, lt-leb (size cv) 256 many);
        least = λ c f. no_cycle f;
        size = h.size;
        beyond = λ i l. h.beyond i (omega arith);
        short = λ l. absurd (omega arith);
        wide = λ l. absurd (omega arith);
      }

  -- Found

  module _ (some : r ≡ 0 → ⊥) where
    few : size cv ≤ 256
    few =
        decide
        (dec_le (size cv) 256)
        (λ l. l)
        (λ n. absurd (some (h.answer ∙ answer_many (length before) cv (omega arith))))

    count : r ≡ size cv
    count = h.answer ∙ answer_few (length before) cv room few

    state_at_lem : (i : ℕ) → i < r → state_in w i ≡ get_or (states 256 1 (width cv) cv) i 0
    state_at_lem i l = sym (get_or-take r w i 0 l) ∙ ap (λ (m : List ℕ). get_or m i 0) (h.listed (omega arith))

    closed : (i t : ℕ) → i < r → Permits 1 (width cv) (state_in w i) t → (x : ℕ) × ((x < r) × (state_in w x ≡ next cv (state_in w i) t))
    closed i t l p =
        let e = state_at_lem i l in
        let o = states_closed 1 (width cv) cv 256 few i (omega (arith, count)) t (subst (λ (s : ℕ). Permits 1 (width cv) s t) e p) in
        let m : o.index < r = omega (arith, count, o.inside) in
        (o.index, (m, state_at_lem o.index m ∙ o.found ∙ ap (λ (s : ℕ). next cv s t) (sym e)))

    distinct : (i j : ℕ) → i < r → j < r → state_in w i ≡ state_in w j → i < j → ⊥
    distinct i j l m e o =
        states_distinct 1 (width cv) cv 256 i j o (omega (arith, count)) (sym (state_at_lem i l) ∙ e ∙ state_at_lem j m)

    apart : (i j : ℕ) → i < r → j < r → state_in w i ≡ state_in w j → i ≡ j
    apart i j l m e =
        let below : (i < j → ⊥) = distinct i j l m e in
        let above : (j < i → ⊥) = distinct j i m l (sym e) in
        omega arith

    listing : Listing w (ruled r (width cv) cv)
    listing =
        record {
          few = omega (arith, count, few);
          room = omega (arith, h.size);
          some = omega arith;
          narrow = width_31 cv low;
          below = λ i l. subst (λ (s : ℕ). s < 2 ^ width cv) (sym (state_at_lem i l)) (states_width 256 1 cv (omega arith) i (omega (arith, count)));
          source = record { index = h.index (omega arith); apart = apart; closed = closed };
        }

    first : state_in w 0 ≡ cv
    first = state_at_lem 0 (omega arith) ∙ (list_extends 1 (width cv) cv 257 0 (cv ∷ [])).same 0 (omega arith)

    reached : (i : ℕ) → i < r → Reachable 1 (width cv) cv (state_in w i)
    reached i l = subst (Reachable 1 (width cv) cv) (sym (state_at_lem i l)) (states_reached 1 (width cv) cv 256 i (omega (arith, count)))

    module _ (after : List ℕ) (best : Cycle) (l : Least w after (ruled r (width cv) cv) best) where
      short : best.count ≤ 256
      short = omega (arith, l.cycle.few, count, few)

      spelled : found after best ≡ spell (cyc after) 0 best.count
      spelled = cycle_spell after best.count (omega (arith, short, l.frame.size, h.size))

      start_low : best.start < r
      start_low = subst (λ (v : ℕ). v < r) l.cycle.begins (l.cycle.arcs 0 l.cycle.some).leaves

      -- the cycle, from the state of its first node on
      begun : (z : CycleFrom 1 (width cv) cv (found after best)) × (z.state ≡ get_or (states 256 1 (width cv) cv) best.start 0)
      begun =
          subst (λ (c : List ℕ). (z : CycleFrom 1 (width cv) cv c) × (z.state ≡ get_or (states 256 1 (width cv) cv) best.start 0)) (sym spelled)
          (cycle_from listing reached l.cycle, cycle_begins listing reached l.cycle ∙ state_at_lem best.start start_low)

      least : LeastMean 1 cv after best
      least =
          record {
            begins = omega (arith, start_low, count);
            start = begun.1;
            some = l.cycle.some;
            few = short;
            adds = l.cycle.total ∙ sym (ap total spelled ∙ total_spell (cyc after) best.count);
            cycle = begun.0;
            floor = record { bound = l.floor.bound; every = λ k e walk. let m = walk_nodes listing walk 0 listing.some first in l.floor.every k m.0 m.1 };
          }

      same_cycle : (c : Cycle) → Some best ≡ Some c → best ≡ c
      same_cycle c e = cc

      searched_least : Searched 1 cv before after (Some best)
      unfolding searchable
      searched_least =
          record {
            answer = rw (le-leb 2048 (length before) room, lt-ltb cv 2147483648 low, le-leb (size cv) 256 few);
            least = λ c e. subst (LeastMean 1 cv after) (same_cycle c e) least;
            size = l.frame.size ∙ h.size;
            beyond = λ i m. l.frame.high i m ∙ h.beyond i (omega arith);
            short = λ m. absurd (omega arith);
            wide = λ m. absurd (omega arith);
          }

    -- the same, with the width as it was counted
    module _ (n : ℕ) (counted : n ≡ width cv) where
      pub listing_counted : Listing w (ruled r n cv)
      listing_counted = subst (λ (k : ℕ). Listing w (ruled r k cv)) (sym counted) listing

      pub searched_found : (after : List ℕ) (best : Cycle) → Least w after (ruled r n cv) best → Searched 1 cv before after (Some best)
      searched_found after best l = searched_least after best (subst (λ (k : ℕ). Least w after (ruled r k cv) best) counted l)
