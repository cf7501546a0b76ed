-- Listing the states: all latencies of a state, and all states. Assumes nothing.
use mathlib.Core.Path.{◌≡◌, refl, sym, ap, ◌∙◌, subst}
use mathlib.Core.Bool.{cond}
use mathlib.Core.List.{List, [], ◌∷◌}
use Prim.Native.Nat.{ℕ, suc, ◌+◌, ◌-◌, ◌*◌, ◌≤◌, ◌<◌}
use native.Mathlib.Nat.{not-suc-le-zero}
use native.Mathlib.Decide.{dec_le}
use native.Mathlib.Omega.{arith}
use borrow.Author.Tests.{le-leb, lt-leb}
use borrow.Author.Count.{below_more}
use lib.ListN.{length, get_or, set, length-set}
use lib.Seq.{get_or-set_same, get_or-set_other}
use Rattle.graphs.specs.States.{add, expand, list_from}
use Rattle.graphs.proofs.Listing.{visit, turn, expand_end, expand_more, expand_extends, list_more, list_end, list_extends}
use Rattle.mean_cycle.specs.Nodes.{arc_word}
use Rattle.loops.specs.declared.State.{State}
use Rattle.loops.specs.declared.steps.Rules.{Rules}
use Rattle.loops.specs.Inner.{masked, advanced, rule_arc, rule_first, rule_graph, rule_tests, rule_states, state_of, put_state, list_in, Stocked, Target, visited, Turned, Listable, expanded, Followed, Entered, Explored}
use Rattle.loops.proofs.StoreLaws.{put_size, put_high, put_state_lem, state_kept, list_length, list_at, list_same}
use Rattle.loops.proofs.TurnLaws.{rule_right}

-- the place of a word of the table
abbrev slot_of : ℕ → ℕ → ℕ
slot_of at t = 1791 + at * 32 + t

-- the list after a latency that has an arc, or has none
visited_short : (R : Rules) (s : State) (t : ℕ) (l : List State) → t ≤ R.width + 1 → visited R s t l ≡ visit (rule_graph R) (rule_tests R) s t l
visited_short R s t l h = ap (λ c. cond c (cond (rule_arc R s t) (add (rule_graph R) (rule_tests R) (advanced R s t) l) l) l) (le-leb t (R.width + 1) h)

visited_long : (R : Rules) (s : State) (t : ℕ) (l : List State) → R.width + 1 < t → visited R s t l ≡ l
visited_long R s t l h = ap (λ c. cond c (cond (rule_arc R s t) (add (rule_graph R) (rule_tests R) (advanced R s t) l) l) l) (lt-leb t (R.width + 1) h)

-- what is left to do after a latency
rest_more : (R : Rules) (s : State) (t : ℕ) (l : List State)
    → expand (rule_graph R) (rule_tests R) s t (R.width + 2 - t) l ≡ expand (rule_graph R) (rule_tests R) s (t + 1) (R.width + 2 - (t + 1)) (visited R s t l)
rest_more R s t l = go (dec_le t (R.width + 1))
  where
    go : Dec (t ≤ R.width + 1)
        → expand (rule_graph R) (rule_tests R) s t (R.width + 2 - t) l ≡ expand (rule_graph R) (rule_tests R) s (t + 1) (R.width + 2 - (t + 1)) (visited R s t l)
    go (yes h) =
        let m : ℕ = R.width + 2 - (t + 1) in
        let e : R.width + 2 - t ≡ suc m = omega arith in
        let f : suc t ≡ t + 1 = omega arith in
        ap (λ n. expand (rule_graph R) (rule_tests R) s t n l) e ∙ expand_more (rule_graph R) (rule_tests R) s t m l
        ∙ ap (λ n. expand (rule_graph R) (rule_tests R) s n m (visit (rule_graph R) (rule_tests R) s t l)) f
        ∙ ap (expand (rule_graph R) (rule_tests R) s (t + 1) m) (sym (visited_short R s t l h))
    go (no h) =
        let e : R.width + 2 - t ≡ 0 = omega arith in
        let f : R.width + 2 - (t + 1) ≡ 0 = omega arith in
        ap (λ n. expand (rule_graph R) (rule_tests R) s t n l) e ∙ expand_end (rule_graph R) (rule_tests R) s t l
        ∙ sym (visited_long R s t l (omega arith)) ∙ sym (expand_end (rule_graph R) (rule_tests R) s (t + 1) (visited R s t l))
        ∙ ap (λ n. expand (rule_graph R) (rule_tests R) s (t + 1) n (visited R s t l)) (sym f)

-- the latencies below t are done
pub record Following (w₁ w : List ℕ) (R : Rules) (k at : ℕ) (s : State) (found t : ℕ) : Type 0 where
  pub size : length w ≡ length w₁
  pub some : 1 ≤ t
  pub upto : t ≤ 33
  pub grown : k ≤ found
  pub few : found ≤ 256
  pub list : expanded R s (list_in w₁ k) ≡ expand (rule_graph R) (rule_tests R) s t (R.width + 2 - t) (list_in w found)
  pub row : (b : ℕ) → b < t → 1 ≤ b → Target w R found s at b
  pub states : (i : ℕ) → i < k → state_of w i ≡ state_of w₁ i
  pub words : (j : ℕ) → j < 9984 → ((b : ℕ) → 1 ≤ b → b ≤ 32 → j ≡ slot_of at b → ⊥) → get_or w j 0 ≡ get_or w₁ j 0
  pub high : (j : ℕ) → 11264 ≤ j → get_or w j 0 ≡ get_or w₁ j 0
  pub stocked : Stocked w found

-- what the table tells of another latency stays
target_kept : {w w' : List ℕ} {R : Rules} {k r : ℕ} {s : State} {at b : ℕ} → k ≤ r → arc_word w' at b ≡ arc_word w at b
    → ((i : ℕ) → i < k → state_of w' i ≡ state_of w i) → Target w R k s at b → Target w' R r s at b
target_kept {w} {w'} {R} {k} {r} {s} {at} {b} g e same h =
    let x = h.inside in
    record {
      inside = omega arith;
      leads = λ l f. ap (state_of w') e ∙ same (arc_word w at b) x ∙ h.leads l f;
    }

pub follow_more : {w₁ w w' : List ℕ} {R : Rules} {k at : ℕ} {s : State} {found t r : ℕ} → Following w₁ w R k at s found t → at < k → t ≤ 32
    → Turned w w' R found s at t r → r ≤ 256 → Following w₁ w' R k at s r (t + 1)
follow_more {w₁} {w} {w'} {R} {k} {at} {s} {found} {t} {r} h inside le u few =
    let some = h.some in
    let grown = h.grown in
    let more = u.grown in
    record {
      size = u.size ∙ h.size;
      some = omega arith;
      upto = omega arith;
      grown = omega arith;
      few = few;
      list = h.list ∙ rest_more R s t (list_in w found) ∙ ap (expand (rule_graph R) (rule_tests R) s (t + 1) (R.width + 2 - (t + 1))) (sym (u.list few));
      row =
          below_more (λ (b : ℕ). 1 ≤ b → Target w' R r s at b) t
          (λ b l m. target_kept more (u.words (slot_of at b) (omega (arith, h.few)) (λ e. omega arith)) u.states (h.row b l m))
          (λ m. u.target few);
      states = λ i l. u.states i (omega arith) ∙ h.states i l;
      words = λ j l n. u.words j l (n t some le) ∙ h.words j l n;
      high = λ j l. u.high j l ∙ h.high j l;
      stocked = u.stocked few h.stocked;
    }

longer : (R : Rules) (s : State) (t m : ℕ) (l : List State) → length l ≤ length (expand (rule_graph R) (rule_tests R) s t m l)
longer R s t m l = (expand_extends (rule_graph R) (rule_tests R) (rule_right R) s t m l).longer

pub follow_over : {w₁ w w' : List ℕ} {R : Rules} {k at : ℕ} {s : State} {found t r : ℕ} → Following w₁ w R k at s found t
    → Turned w w' R found s at t r → 256 < r → 256 < length (expanded R s (list_in w₁ k))
follow_over {w₁} {w} {w'} {R} {k} {at} {s} {found} {t} {r} h u many =
    let e = ap length (h.list ∙ rest_more R s t (list_in w found)) in
    omega (arith, u.over many, longer R s (t + 1) (R.width + 2 - (t + 1)) (visited R s t (list_in w found)))

-- The word of the state is written first

module _ (w : List ℕ) (R : Rules) (k at : ℕ) (ready : Listable w k at) (word : ℕ) where
  abbrev w₁ : List ℕ
  w₁ = set w at word

  at_low : at < 256
  at_low = omega (arith, ready.inside, ready.few)

  mark_state : (i : ℕ) → i < 256 → state_of w₁ i ≡ state_of w i
  mark_state i l = state_kept w w₁ (λ j a b. get_or-set_other w at j word 0 (λ e. omega (arith, at_low))) i l

  mark_list : list_in w₁ k ≡ list_in w k
  mark_list = list_same w w₁ k (λ i l. mark_state i (omega (arith, ready.few)))

  module _ (s : State) (is : s ≡ state_of w at) (mask : word ≡ masked R s) where
    list_back : expanded R s (list_in w₁ k) ≡ expanded R (state_of w at) (list_in w k)
    list_back = ap (λ (x : State). expanded R x (list_in w₁ k)) is ∙ ap (expanded R (state_of w at)) mark_list

    masked_at : masked R s ≡ masked R (state_of w at)
    masked_at = ap (masked R) is

    marked : get_or w₁ at 0 ≡ masked R (state_of w at)
    marked = get_or-set_same w at word 0 (omega (arith, at_low, ready.room)) ∙ mask ∙ masked_at

    word_kept : (w' : List ℕ) → ((j : ℕ) → j < 9984 → ((b : ℕ) → 1 ≤ b → b ≤ 32 → j ≡ slot_of at b → ⊥) → get_or w' j 0 ≡ get_or w₁ j 0) → get_or w' at 0 ≡ masked R (state_of w at)
    word_kept w' words = words at (omega (arith, at_low)) (λ b l m e. omega (arith, at_low)) ∙ marked

    others : (w' : List ℕ) → ((j : ℕ) → j < 9984 → ((b : ℕ) → 1 ≤ b → b ≤ 32 → j ≡ slot_of at b → ⊥) → get_or w' j 0 ≡ get_or w₁ j 0)
        → (j : ℕ) → j < 9984 → (j ≡ at → ⊥) → ((b : ℕ) → 1 ≤ b → b ≤ 32 → j ≡ slot_of at b → ⊥) → get_or w' j 0 ≡ get_or w j 0
    others w' words j l ne n = words j l n ∙ get_or-set_other w at j word 0 ne

    pub followed_over : (w'' w' : List ℕ) (found t r : ℕ) → Following w₁ w'' R k at s found t → t ≤ 32 → Turned w'' w' R found s at t r → 256 < r → Followed w w' R k at r
    followed_over w'' w' found t r h le u many =
        let grown = h.grown in
        let words : (j : ℕ) → j < 9984 → ((b : ℕ) → 1 ≤ b → b ≤ 32 → j ≡ slot_of at b → ⊥) → get_or w' j 0 ≡ get_or w₁ j 0 =
        λ j l n. u.words j l (n t h.some le) ∙ h.words j l n in
        record {
          size = u.size ∙ h.size ∙ length-set w at word;
          grown = omega (arith, u.grown);
          list = λ z. absurd (omega arith);
          over = λ z. subst (λ (l : List State). 256 < length l) list_back (follow_over h u many);
          row = λ z. absurd (omega arith);
          mask = word_kept w' words;
          states = λ i l. u.states i (omega arith) ∙ h.states i l ∙ mark_state i (omega (arith, ready.few));
          words = others w' words;
          high = λ j l. u.high j l ∙ h.high j l ∙ get_or-set_other w at j word 0 (λ e. omega (arith, at_low));
          stocked = λ z. absurd (omega arith);
        }

    pub followed_all : (w' : List ℕ) (found t : ℕ) → Following w₁ w' R k at s found t → 32 < t → R.width ≤ 31 → Followed w w' R k at found
    followed_all w' found t h le slim =
        let e : R.width + 2 - t ≡ 0 = omega arith in
        let all : expanded R s (list_in w₁ k) ≡ list_in w' found =
        h.list ∙ ap (λ n. expand (rule_graph R) (rule_tests R) s t n (list_in w' found)) e ∙ expand_end (rule_graph R) (rule_tests R) s t (list_in w' found) in
        record {
          size = h.size ∙ length-set w at word;
          grown = h.grown;
          list = λ z. sym all ∙ list_back;
          over = λ z. absurd (omega (arith, h.few));
          row = λ z b l m. subst (λ (x : State). Target w' R found x at b) is (h.row b (omega arith) l);
          mask = word_kept w' h.words;
          states = λ i l. h.states i l ∙ mark_state i (omega (arith, ready.few));
          words = others w' h.words;
          high = λ j l. h.high j l ∙ get_or-set_other w at j word 0 (λ e. omega (arith, at_low));
          stocked = λ z. h.stocked;
        }

-- All states

-- the states before a place are done
pub record Exploring (w₀ w : List ℕ) (R : Rules) (k at : ℕ) : Type 0 where
  pub size : length w ≡ length w₀
  pub high : (j : ℕ) → 11264 ≤ j → get_or w j 0 ≡ get_or w₀ j 0
  pub some : 1 ≤ k
  pub few : k ≤ 256
  pub upto : at ≤ k
  pub stocked : Stocked w k
  pub list : rule_states R ≡ list_from (rule_graph R) (rule_tests R) (257 - at) at (list_in w k)
  pub done : (v : ℕ) → v < at → Entered w R k v

pub explore_start : (w : List ℕ) (R : Rules) (first : State) → 11264 ≤ length w → first ≡ rule_first R → Exploring (put_state w 0 first) (put_state w 0 first) R 1 0
explore_start w R first room e =
    let is : state_of (put_state w 0 first) 0 ≡ rule_first R = put_state_lem w 0 first (omega arith) room ∙ e in
    record {
      size = refl;
      high = λ j l. refl;
      some = omega arith;
      few = omega arith;
      upto = omega arith;
      stocked = λ i l.
          let z : 0 ≡ i = omega arith in
          subst (λ (j : ℕ). (state_of (put_state w 0 first) j).position < 8) z (subst (λ (x : State). x.position < 8) (sym is) (omega arith));
      list = ap (λ (x : State). list_from (rule_graph R) (rule_tests R) 257 0 (x ∷ [])) (sym is);
      done = λ v l. absurd (not-suc-le-zero l);
    }

done_kept : {w w' : List ℕ} {R : Rules} {k at r v : ℕ} → k ≤ 256 → at < k → Followed w w' R k at r → v < k → (v ≡ at → ⊥) → Entered w R k v → Entered w' R r v
done_kept {w} {w'} {R} {k} {at} {r} {v} few inside f l ne h =
    let same : state_of w' v ≡ state_of w v = f.states v l in
    record {
      mask = f.words v (omega arith) ne (λ b p q e. omega arith) ∙ h.mask ∙ ap (masked R) (sym same);
      row = λ t p q.
          subst (λ (x : State). Target w' R r x v t) (sym same)
          (target_kept f.grown (f.words (slot_of v t) (omega arith) (λ e. omega arith) (λ b p' q' e. ne (omega arith))) f.states (h.row t p q));
    }

done_here : {w w' : List ℕ} {R : Rules} {k at r : ℕ} → at < k → r ≤ 256 → Followed w w' R k at r → Entered w' R r at
done_here {w} {w'} {R} {k} {at} {r} inside few f =
    let same : state_of w' at ≡ state_of w at = f.states at inside in
    record {
      mask = f.mask ∙ ap (masked R) (sym same);
      row = λ t p q. subst (λ (x : State). Target w' R r x at t) (sym same) (f.row few t p q);
    }

-- the list goes on with the state at a place
list_on : (w : List ℕ) (R : Rules) (k at : ℕ) → at < k → at ≤ 256
    → list_from (rule_graph R) (rule_tests R) (257 - at) at (list_in w k)
    ≡ list_from (rule_graph R) (rule_tests R) (257 - (at + 1)) (at + 1) (expanded R (state_of w at) (list_in w k))
list_on w R k at inside low =
    let e : 257 - at ≡ suc (257 - (at + 1)) = omega arith in
    let f : suc at ≡ at + 1 = omega arith in
    ap (λ n. list_from (rule_graph R) (rule_tests R) n at (list_in w k)) e
    ∙ list_more (rule_graph R) (rule_tests R) (257 - (at + 1)) at (list_in w k) (omega (arith, list_length w k))
    ∙ ap (λ n. list_from (rule_graph R) (rule_tests R) (257 - (at + 1)) n (turn (rule_graph R) (rule_tests R) at (list_in w k))) f
    ∙ ap (λ (x : State). list_from (rule_graph R) (rule_tests R) (257 - (at + 1)) (at + 1) (expanded R x (list_in w k))) (list_at w (rule_first R) k at inside)

pub explore_more : {w₀ w w' : List ℕ} {R : Rules} {k at r : ℕ} → Exploring w₀ w R k at → at < k → Followed w w' R k at r → r ≤ 256
    → Exploring w₀ w' R r (at + 1)
explore_more {w₀} {w} {w'} {R} {k} {at} {r} h inside f few =
    let grown = f.grown in
    let was = h.few in
    record {
      size = f.size ∙ h.size;
      high = λ j l. f.high j l ∙ h.high j l;
      some = omega arith;
      few = few;
      upto = omega arith;
      stocked = f.stocked few;
      list =
          h.list ∙ list_on w R k at inside (omega arith)
          ∙ ap (list_from (rule_graph R) (rule_tests R) (257 - (at + 1)) (at + 1)) (sym (f.list few));
      done = below_more (λ (v : ℕ). Entered w' R r v) at (λ v l. done_kept was inside f (omega arith) (λ e. omega arith) (h.done v l)) (done_here inside few f);
    }

pub explored_over : {w w₀ w₁ w' : List ℕ} {R : Rules} {k at r : ℕ} → length w₀ ≡ length w → ((j : ℕ) → 11264 ≤ j → get_or w₀ j 0 ≡ get_or w j 0)
    → Exploring w₀ w₁ R k at → at < k → Followed w₁ w' R k at r → 256 < r → Explored w w' R r
explored_over {w} {w₀} {w₁} {w'} {R} {k} {at} {r} size high h inside f many =
    let was = h.few in
    let e = ap length (h.list ∙ list_on w₁ R k at inside (omega arith)) in
    record {
      size = f.size ∙ h.size ∙ size;
      high = λ j l. f.high j l ∙ h.high j l ∙ high j l;
      some = omega arith;
      list = λ z. absurd (omega arith);
      done = λ z. absurd (omega arith);
      over = λ z.
          omega (
            arith,
            f.over many,
            (list_extends (rule_graph R) (rule_tests R) (rule_right R) (257 - (at + 1)) (at + 1) (expanded R (state_of w₁ at) (list_in w₁ k))).longer,
          );
    }

pub explored_all : {w w₀ w' : List ℕ} {R : Rules} {k at : ℕ} → length w₀ ≡ length w → ((j : ℕ) → 11264 ≤ j → get_or w₀ j 0 ≡ get_or w j 0)
    → Exploring w₀ w' R k at → k ≤ at → Explored w w' R k
explored_all {w} {w₀} {w'} {R} {k} {at} size high h end =
    let e : at ≡ k = omega (arith, h.upto) in
    record {
      size = h.size ∙ size;
      high = λ j l. h.high j l ∙ high j l;
      some = h.some;
      list = λ z. sym (h.list ∙ list_end (rule_graph R) (rule_tests R) (257 - at) at (list_in w' k) (omega (arith, list_length w' k)));
      done = λ z v l. h.done v (omega arith);
      over = λ z. absurd (omega (arith, h.few));
    }

-- the first state is written before the loop
module _ (w w₀ : List ℕ) (first : State) (put : w₀ ≡ put_state w 0 first) where
  pub begin_size : length w₀ ≡ length w
  begin_size = ap length put ∙ put_size w 0 first

  pub begin_high : (j : ℕ) → 11264 ≤ j → get_or w₀ j 0 ≡ get_or w j 0
  begin_high j l = ap (λ (v : List ℕ). get_or v j 0) put ∙ put_high w 0 first j (omega arith) l

  pub explore_begin : (R : Rules) → 11264 ≤ length w → first ≡ rule_first R → Exploring w₀ w₀ R 1 0
  explore_begin R room e = subst (λ (v : List ℕ). Exploring v v R 1 0) (sym put) (explore_start w R first room e)
