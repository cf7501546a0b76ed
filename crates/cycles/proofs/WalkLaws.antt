-- The walk over the listed states: what holds at its start, after a step, and where a state occurs again. Assumes nothing.
use mathlib.Core.Path.{◌≡◌, refl, sym, ap, ap₂, subst, ◌∙◌}
use mathlib.Core.Bool.{Bool, true, false, ◌||◌}
use mathlib.Core.List.{List, [], ◌∷◌, ◌++◌}
use Prim.Native.Nat.{ℕ, suc, ◌+◌, ◌-◌, ◌≤◌, ◌<◌}
use native.Mathlib.Nat.{not-suc-le-zero}
use native.Mathlib.Decide.{ℕ_discrete}
use native.Mathlib.Omega.{arith}
use lib.Dec.{eqb}
use lib.ListN.{length, get_or, set, drop, length-set, length-append, length-drop, get_or-append}
use lib.Seq.{get_or-set_same, get_or-set_other, get_or_at, get_or-take, get_or-drop, length-take-le, ext_get_or}
use borrow.Author.Count.{below_more}
use borrow.Author.Tests.{ne_eqb}
use Rattle.words.proofs.Tests.{T_true}
use Rattle.diagram.specs.Diagram.{width, next, Permits}
use Rattle.diagram.specs.States.{has}
use Rattle.diagram.specs.Work.{state_in, place_in}
use Rattle.diagram.proofs.ListLaws.{listed_has}
use Rattle.diagram.proofs.WidthLaws.{width_le}
use Rattle.diagram.proofs.Walks.{walk_permits}
use Rattle.cycles.specs.Greedy.{least_latency, greedy_from, greedy_cycle}
use Rattle.cycles.specs.Inner.{mark_in, step_in, noted_in, Unmarked, Ready, Stepped, Walkable, Walked}
use Rattle.cycles.proofs.GreedyLaws.{least_permits, place_only, Trail, trail_start, trail_length, trail_more, trail_few, greedy_more, greedy_end}
use Rattle.cycles.proofs.ListingLaws.{walkable_kept, listed_number_lem, listed_few, listed_first, listed_apart, Landed, arc_lands}

-- Words that changed only where the walk writes: from 768 to 1279

pub record Frame (before w : List ℕ) : Type 0 where
  pub size : length w ≡ length before
  pub low : (i : ℕ) → i < 768 → get_or w i 0 ≡ get_or before i 0
  pub high : (i : ℕ) → 1280 ≤ i → get_or w i 0 ≡ get_or before i 0

-- the words after step i from a place by the latency t
abbrev pub stepped : List ℕ → ℕ → ℕ → ℕ → List ℕ
stepped w at i t = set (set w (768 + at) (i + 1)) (1024 + i) t

module _ (w : List ℕ) (at i t : ℕ) (room : 2048 ≤ length w) (inside : at < 256) (few : i < 256) where
  other : (j : ℕ) → (j ≡ 768 + at → ⊥) → (j ≡ 1024 + i → ⊥) → get_or (stepped w at i t) j 0 ≡ get_or w j 0
  other j p q = get_or-set_other (set w (768 + at) (i + 1)) (1024 + i) j t 0 q ∙ get_or-set_other w (768 + at) j (i + 1) 0 p

  step_frame : Frame w (stepped w at i t)
  step_frame = record {
    size = simp length-set;
    low = λ j l. other j (λ e. omega arith) (λ e. omega arith);
    high = λ j l. other j (λ e. omega arith) (λ e. omega arith);
  }

  mark_here : mark_in (stepped w at i t) at ≡ i + 1
  mark_here =
      get_or-set_other (set w (768 + at) (i + 1)) (1024 + i) (768 + at) t 0 (λ e. omega arith)
      ∙ get_or-set_same w (768 + at) (i + 1) 0 (omega arith)

  mark_other : (v : ℕ) → v < 256 → (v ≡ at → ⊥) → mark_in (stepped w at i t) v ≡ mark_in w v
  mark_other v l ne = other (768 + v) (λ e. ne (omega arith)) (λ e. omega arith)

  step_here : step_in (stepped w at i t) i ≡ t
  step_here = get_or-set_same (set w (768 + at) (i + 1)) (1024 + i) t 0 (simp length-set (omega arith))

  step_other : (j : ℕ) → j < i → step_in (stepped w at i t) j ≡ step_in w j
  step_other j l = other (1024 + j) (λ e. omega arith) (λ e. omega arith)

-- a number that is not in a list, nor the next at its end
has_more : (x y : ℕ) (l : List ℕ) → has x l ≡ false → (y ≡ x → ⊥) → has x (l ++ (y ∷ [])) ≡ false
has_more x y [] e ne = rw (ne_eqb y x ne)
has_more x y (z ∷ l) e ne = go (eqb z x) e (λ f. has_more x y l f ne)
  where
    go : (b : Bool) → b || has x l ≡ false → (has x l ≡ false → has x (l ++ (y ∷ [])) ≡ false) → b || has x (l ++ (y ∷ [])) ≡ false
    go true f r = f
    go false f r = r f

-- the mark of state v tells the step at which the walk left it
pub record Left (before w seen : List ℕ) (i v : ℕ) : Type 0 where
  pub most : mark_in w v ≤ i
  pub state : get_or seen (mark_in w v - 1) 0 ≡ state_in before v

-- i steps from the first state to the state at a place. The calculation goes on from here to the same cycle.
pub record Walking (before w : List ℕ) (cv k at i : ℕ) : Type 0 where
  pub listing : Walkable before cv k
  pub frame : Frame before w
  pub inside : at < k
  pub seen : List ℕ
  pub latencies : List ℕ
  pub trail : Trail 1 (width cv) cv seen latencies (state_in before at)
  pub count : length latencies ≡ i
  pub noted : (j : ℕ) → j < i → step_in w j ≡ get_or latencies j 0
  pub unmarked : (v : ℕ) → v < k → mark_in w v ≡ 0 → has (state_in before v) seen ≡ false
  pub marked : (v : ℕ) → v < k → 0 < mark_in w v → Left before w seen i v
  pub rest : greedy_from 1 (width cv) cv (257 - i) seen latencies (state_in before at) ≡ greedy_cycle 1 (width cv) cv

-- the least latency of the state at a place, and the words after a step by it
abbrev least : ℕ → List ℕ → ℕ → ℕ
least cv w at = least_latency 1 (width cv) (state_in w at)

abbrev onward : ℕ → List ℕ → List ℕ → ℕ → ℕ → List ℕ
onward cv before w at i = stepped w at i (least cv before at)

pub walk_start : {before w : List ℕ} {cv k : ℕ} → Walkable before cv k → Unmarked before w → Walking w w cv k 0 0
unfolding greedy_cycle
walk_start {before} {w} {cv} {k} h c =
    let kept : Walkable w cv k = walkable_kept c.size c.below h in
    let few = h.index.few in
    let first : state_in w 0 ≡ cv = listed_first kept in
    record {
      listing = kept;
      frame = record { size = refl; low = λ i l. refl; high = λ i l. refl };
      inside = h.some;
      seen = [];
      latencies = [];
      trail = subst (Trail 1 (width cv) cv [] []) (sym first) (trail_start 1 (width cv) cv);
      count = refl;
      noted = λ j l. absurd (not-suc-le-zero l);
      unmarked = λ v l e. refl;
      marked = λ v l p. absurd (omega (arith, c.none v (omega arith)));
      rest = ap (greedy_from 1 (width cv) cv 257 [] []) first;
    }

module _ {before w : List ℕ} {cv k at i : ℕ} (r : Walking before w cv k at i) where
  seen_length : length r.seen ≡ i
  seen_length = trail_length r.trail ∙ r.count

  pub walk_few : i ≤ k
  walk_few = omega (arith, seen_length, trail_few r.trail (listed_few r.listing), listed_number_lem r.listing)

  pub walk_room : 2048 ≤ length w
  walk_room = omega (arith, r.frame.size, r.listing.room)

  pub walk_place : at < 256
  walk_place = omega (arith, r.inside, r.listing.index.few)

  module _ (new : mark_in w at ≡ 0) where
    fresh : has (state_in before at) r.seen ≡ false
    fresh = r.unmarked at r.inside new

    next_trail : Trail 1 (width cv) cv (r.seen ++ (state_in before at ∷ [])) (r.latencies ++ (least cv before at ∷ [])) (next cv (state_in before at) (least cv before at))
    next_trail = trail_more r.trail _ fresh (least_permits 1 (width cv) (state_in before at))

    pub walk_fewer : i < k
    walk_fewer =
        omega (
          arith,
          seen_length,
          length-append r.seen (state_in before at ∷ []),
          trail_few next_trail (listed_few r.listing),
          listed_number_lem r.listing,
        )

    pub walk_ready : Ready w (width cv) at i
    walk_ready = record {
      room = walk_room;
      narrow = width_le cv;
      inside = walk_place;
      few = omega (arith, walk_fewer, r.listing.index.few);
    }

    module _ {after : List ℕ} {n to : ℕ} (wide : n ≡ width cv) (p : Stepped w after cv n k at i to) where
      state_kept : state_in w at ≡ state_in before at
      state_kept = r.frame.low at (omega (arith, walk_place))

      least_kept : least_latency 1 n (state_in w at) ≡ least cv before at
      least_kept = ap₂ (least_latency 1) wide state_kept

      words : after ≡ onward cv before w at i
      words = p.words ∙ ap (stepped w at i) least_kept

      few : i < 256
      few = omega (arith, walk_fewer, r.listing.index.few)

      landed : Landed before cv k at (least cv before at) to
      landed =
          let l : Landed w cv k at (least cv before at) to =
          arc_lands (walkable_kept r.frame.size r.frame.low r.listing) at (least cv before at) to r.inside
          (subst (λ s. Permits 1 (width cv) s (least cv before at)) (sym state_kept) (least_permits 1 (width cv) (state_in before at)))
          (p.place ∙ ap (λ t. place_in w k (next cv (state_in w at) t)) least_kept) in
          record {
            inside = l.inside;
            state = sym (r.frame.low to (omega (arith, l.inside, r.listing.index.few))) ∙ l.state ∙ ap (λ s. next cv s (least cv before at)) state_kept;
          }

      next_marked : (v : ℕ) → v < k → 0 < mark_in (onward cv before w at i) v
          → Left before (onward cv before w at i) (r.seen ++ (state_in before at ∷ [])) (i + 1) v
      next_marked v l pos = go (ℕ_discrete v at)
        where
          go : Dec (v ≡ at) → Left before (onward cv before w at i) (r.seen ++ (state_in before at ∷ [])) (i + 1) v
          go (yes e) =
              let m : mark_in (onward cv before w at i) v ≡ i + 1 =
              ap (mark_in (onward cv before w at i)) e ∙ mark_here w at i (least cv before at) walk_room walk_place few in
              record {
                most = omega arith;
                state = get_or_at r.seen (state_in before at) [] 0 _ (omega (arith, seen_length)) ∙ ap (state_in before) (sym e);
              }
          go (no e) =
              let m : mark_in (onward cv before w at i) v ≡ mark_in w v =
              mark_other w at i (least cv before at) walk_room walk_place few v (omega (arith, r.listing.index.few)) e in
              let q = r.marked v l (omega arith) in
              let top = q.most in
              record {
                most = omega arith;
                state =
                    ap (λ x. get_or (r.seen ++ (state_in before at ∷ [])) (x - 1) 0) m
                    ∙ get_or-append r.seen (state_in before at ∷ []) 0 (mark_in w v - 1) (omega (arith, seen_length)) ∙ q.state;
              }

      next_unmarked : (v : ℕ) → v < k → mark_in (onward cv before w at i) v ≡ 0 → has (state_in before v) (r.seen ++ (state_in before at ∷ [])) ≡ false
      next_unmarked v l z = go (ℕ_discrete v at)
        where
          go : Dec (v ≡ at) → has (state_in before v) (r.seen ++ (state_in before at ∷ [])) ≡ false
          go (yes e) =
              let m : mark_in (onward cv before w at i) v ≡ i + 1 =
              ap (mark_in (onward cv before w at i)) e ∙ mark_here w at i (least cv before at) walk_room walk_place few in
              absurd (omega arith)
          go (no e) =
              let m : mark_in (onward cv before w at i) v ≡ mark_in w v =
              mark_other w at i (least cv before at) walk_room walk_place few v (omega (arith, r.listing.index.few)) e in
              has_more (state_in before v) (state_in before at) r.seen (r.unmarked v l (omega arith))
              (λ q. e (listed_apart r.listing v at l r.inside (sym q)))

      walk_next : Walking before (onward cv before w at i) cv k to (i + 1)
      walk_next =
          let t : ℕ = least cv before at in
          let f = step_frame w at i t walk_room walk_place few in
          let fuel : 257 - (i + 1) ≡ 256 - i = omega arith in
          let more : suc (256 - i) ≡ 257 - i = omega (arith, few) in
          record {
            listing = r.listing;
            frame = record {
              size = f.size ∙ r.frame.size;
              low = λ j l. f.low j l ∙ r.frame.low j l;
              high = λ j l. f.high j l ∙ r.frame.high j l;
            };
            inside = landed.inside;
            seen = r.seen ++ (state_in before at ∷ []);
            latencies = r.latencies ++ (t ∷ []);
            trail = subst (Trail 1 (width cv) cv (r.seen ++ (state_in before at ∷ [])) (r.latencies ++ (t ∷ []))) (sym landed.state) next_trail;
            count = omega (arith, length-append r.latencies (t ∷ []), r.count);
            noted = below_more (λ j. step_in (stepped w at i t) j ≡ get_or (r.latencies ++ (t ∷ [])) j 0) i
                (λ j l. step_other w at i t walk_room walk_place few j l ∙ r.noted j l
                ∙ sym (get_or-append r.latencies (t ∷ []) 0 j (omega (arith, r.count))))
                (step_here w at i t walk_room walk_place few ∙ sym (get_or_at r.latencies t [] 0 i r.count));
            unmarked = next_unmarked;
            marked = next_marked;
            rest =
                ap (λ x. greedy_from 1 (width cv) cv x (r.seen ++ (state_in before at ∷ [])) (r.latencies ++ (t ∷ [])) (state_in before to)) fuel
                ∙ ap (greedy_from 1 (width cv) cv (256 - i) (r.seen ++ (state_in before at ∷ [])) (r.latencies ++ (t ∷ []))) landed.state
                ∙ sym (greedy_more 1 (width cv) cv (256 - i) r.seen r.latencies (state_in before at) fresh)
                ∙ ap (λ x. greedy_from 1 (width cv) cv x r.seen r.latencies (state_in before at)) more
                ∙ r.rest;
          }

      pub walk_more : Walking before after cv k to (i + 1)
      walk_more = subst (λ x. Walking before x cv k to (i + 1)) (sym words) walk_next

  -- the state at the place has a mark: it was left at that step, and the latencies from there on are the cycle
  module _ (old : mark_in w at ≡ 0 → ⊥) where
    pub walk_back : (0 < mark_in w at) × (mark_in w at ≤ i)
    walk_back = let p : 0 < mark_in w at = omega arith in (p, (r.marked at r.inside p).most)

    again : get_or r.seen (mark_in w at - 1) 0 ≡ state_in before at
    again = (r.marked at r.inside walk_back.0).state

    cycle : drop (mark_in w at - 1) r.latencies ≡ greedy_cycle 1 (width cv) cv
    cycle =
        let p = walk_back.0 in
        let q = walk_back.1 in
        let inside : mark_in w at - 1 < length r.seen = omega (arith, seen_length) in
        let more : 257 - i ≡ suc (256 - i) = omega (arith, walk_few, r.listing.index.few) in
        ap (λ j. drop j r.latencies) (sym (place_only (state_in before at) r.seen (mark_in w at - 1) r.trail.apart inside again))
        ∙ sym (greedy_end 1 (width cv) cv (256 - i) r.seen r.latencies (state_in before at)
        (T_true (has (state_in before at) r.seen) (listed_has (state_in before at) r.seen (mark_in w at - 1) inside again)))
        ∙ ap (λ x. greedy_from 1 (width cv) cv x r.seen r.latencies (state_in before at)) (sym more)
        ∙ r.rest

    noted_at : (j : ℕ) → j < i - (mark_in w at - 1) → get_or w (1024 + (mark_in w at - 1) + j) 0 ≡ get_or r.latencies (mark_in w at - 1 + j) 0
    noted_at j l =
        let e : 1024 + (mark_in w at - 1) + j ≡ 1024 + (mark_in w at - 1 + j) = omega arith in
        ap (λ x. get_or w x 0) e ∙ r.noted (mark_in w at - 1 + j) (omega arith)

    noted_cycle : noted_in w (1024 + (mark_in w at - 1)) (i - (mark_in w at - 1)) ≡ greedy_cycle 1 (width cv) cv
    noted_cycle =
        let from : ℕ = 1024 + (mark_in w at - 1) in
        let count : ℕ = i - (mark_in w at - 1) in
        let long : length (noted_in w from count) ≡ count =
        length-take-le count (drop from w) (omega (arith, length-drop from w, walk_room, walk_few, r.listing.index.few, walk_back.1)) in
        ext_get_or 0 (noted_in w from count) (drop (mark_in w at - 1) r.latencies)
        (long ∙ sym (length-drop (mark_in w at - 1) r.latencies ∙ ap (λ x. x - (mark_in w at - 1)) r.count))
        (λ j l.
        let low : j < count = omega arith in
        get_or-take count (drop from w) j 0 low ∙ get_or-drop from w j 0 ∙ noted_at j low ∙ sym (get_or-drop (mark_in w at - 1) r.latencies j 0))
        ∙ cycle

    pub walk_end : {entry : List ℕ} → Unmarked entry before → Walked entry w cv (record { from = 1024 + (mark_in w at - 1); count = i - (mark_in w at - 1) })
    walk_end c = record {
      size = r.frame.size ∙ c.size;
      beyond = λ j l. r.frame.high j (omega arith) ∙ c.above j (omega arith);
      inside = omega (arith, walk_back.1, walk_few, r.listing.index.few);
      few = omega (arith, walk_few, r.listing.index.few);
      cycle = noted_cycle;
      low = λ j l.
          let p = walk_permits r.trail.walk (mark_in w at - 1 + j) (omega (arith, r.count)) in
          omega (arith, noted_at j l, p.small, width_le cv);
    }
