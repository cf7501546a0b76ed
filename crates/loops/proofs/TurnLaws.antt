-- Listing the states: one latency of a state. Assumes nothing.
use mathlib.Core.Path.{◌≡◌, refl, sym, ap, ◌∙◌, subst}
use mathlib.Core.Bool.{Bool, true, false, cond, not}
use mathlib.Core.Logic.{◌⊎◌, inl, inr, ⊎_elim}
use mathlib.Core.List.{List}
use Prim.Native.Nat.{ℕ, suc, ◌+◌, ◌-◌, ◌*◌, ◌≤◌, ◌<◌}
use native.Mathlib.Numerals.{add-one}
use native.Mathlib.Decide.{dec_lt, dec_le}
use native.Mathlib.Omega.{arith}
use borrow.Author.Tests.{le-leb, lt-leb}
use lib.ListN.{length, get_or, set, length-set}
use lib.Seq.{get_or-set_same, get_or-set_other}
use Rattle.words.specs.Bits.{is_set}
use Rattle.words.proofs.Tests.{nowhere}
use Rattle.graphs.specs.States.{Right, add}
use Rattle.loops.specs.declared.State.{State}
use Rattle.loops.specs.declared.steps.Rules.{Rules}
use Rattle.loops.specs.Steps.{same_state}
use Rattle.loops.specs.Inner.{masked, advanced, rule_arc, rule_graph, rule_tests, state_of, list_in, Placed, Included, Stocked, Led, visited, Turned}
use Rattle.loops.proofs.StateLaws.{same_state_lem, state_same}
use Rattle.loops.proofs.RuleLaws.{position_low}
use Rattle.loops.proofs.StoreLaws.{put_size, put_low, put_high, put_state_lem, put_state_other, state_kept, list_same, included_old, included_new, included_full}

pub rule_right : (R : Rules) → Right (rule_graph R) (rule_tests R)
rule_right R = record {
  same = λ x y. (same_state_lem x y, λ e. subst (λ (z : State). same_state x z ≡ true) e (state_same x));
  arc = λ s t h k e. record { least = h; most = k; free = e };
  permits = λ s t p. (p.least, p.most, p.free);
}

-- One latency

-- nothing is led to, or a state is included
pub record Idle (w w₁ : List ℕ) (R : Rules) (s : State) (t x : ℕ) : Type 0 where
  pub list : (l : List State) → visited R s t l ≡ l
  pub words : w₁ ≡ w
  pub zero : x ≡ 0
  pub barred : t ≤ R.width + 1 → rule_arc R s t ≡ true → ⊥

pub record Moved (w w₁ : List ℕ) (R : Rules) (k : ℕ) (s : State) (t x : ℕ) : Type 0 where
  pub list : (l : List State) → visited R s t l ≡ add (rule_graph R) (rule_tests R) (advanced R s t) l
  pub included : Included w w₁ k (advanced R s t) x

kind : (w w₁ : List ℕ) (R : Rules) (k : ℕ) (s : State) (word t x : ℕ) → Led w w₁ R k s word t x → word ≡ masked R s → Idle w w₁ R s t x ⊎ Moved w w₁ R k s t x
kind w w₁ R k s word t x led e = go (dec_le t (R.width + 1)) (is_set word (t - 1)) refl
  where
    arc : (b : Bool) → is_set word (t - 1) ≡ b → rule_arc R s t ≡ not b
    arc b p = ap (λ (m : ℕ). not (is_set m (t - 1))) (sym e) ∙ ap not p

    go : Dec (t ≤ R.width + 1) → (b : Bool) → is_set word (t - 1) ≡ b → Idle w w₁ R s t x ⊎ Moved w w₁ R k s t x
    go (no h) b p =
        let o = led.long (omega arith) in
        inl (record {
          list = λ l. ap (λ c. cond c (cond (rule_arc R s t) (add (rule_graph R) (rule_tests R) (advanced R s t) l) l) l) (lt-leb t (R.width + 1) (omega arith));
          words = o.0;
          zero = o.1;
          barred = λ m. absurd (h m);
        })
    go (yes h) true p =
        let o = led.barred p h in
        inl (record {
          list = λ l.
              ap (λ c. cond c (cond (rule_arc R s t) (add (rule_graph R) (rule_tests R) (advanced R s t) l) l) l) (le-leb t (R.width + 1) h)
              ∙ ap (λ c. cond c (add (rule_graph R) (rule_tests R) (advanced R s t) l) l) (arc true p);
          words = o.0;
          zero = o.1;
          barred = λ m f. nowhere (sym (arc true p) ∙ f);
        })
    go (yes h) false p =
        inr (record {
          list = λ l.
              ap (λ c. cond c (cond (rule_arc R s t) (add (rule_graph R) (rule_tests R) (advanced R s t) l) l) l) (le-leb t (R.width + 1) h)
              ∙ ap (λ c. cond c (add (rule_graph R) (rule_tests R) (advanced R s t) l) l) (arc false p);
          included = led.led p h;
        })

-- what the words are after it, before the table is written
pub record Made (w w₁ : List ℕ) (R : Rules) (k : ℕ) (s : State) (t x : ℕ) : Type 0 where
  pub size : length w₁ ≡ length w
  pub low : (j : ℕ) → j < 9984 → get_or w₁ j 0 ≡ get_or w j 0
  pub high : (j : ℕ) → 11264 ≤ j → get_or w₁ j 0 ≡ get_or w j 0
  pub states : (i : ℕ) → i < k → state_of w₁ i ≡ state_of w i
  pub most : x ≤ k
  pub old : x < k → (list_in w₁ k ≡ visited R s t (list_in w k)) × (t ≤ R.width + 1 → rule_arc R s t ≡ true → state_of w₁ x ≡ advanced R s t)
  pub new : k ≤ x → k < 256 → (list_in w₁ (suc k) ≡ visited R s t (list_in w k)) × (state_of w₁ k ≡ advanced R s t)
  pub full : k ≤ x → length (visited R s t (list_in w k)) ≡ suc k

pub made : (w w₁ : List ℕ) (R : Rules) (k : ℕ) (s : State) (word t x : ℕ) → Led w w₁ R k s word t x → word ≡ masked R s → 1 ≤ k → k ≤ 256
    → 11264 ≤ length w → Made w w₁ R k s t x
made w w₁ R k s word t x led e some few room = ⊎_elim idle moved (kind w w₁ R k s word t x led e)
  where
    idle : Idle w w₁ R s t x → Made w w₁ R k s t x
    idle i =
        let z = i.zero in
        record {
          size = ap length i.words;
          low = λ j l. ap (λ (v : List ℕ). get_or v j 0) i.words;
          high = λ j l. ap (λ (v : List ℕ). get_or v j 0) i.words;
          states = λ j l. ap (λ (v : List ℕ). state_of v j) i.words;
          most = omega arith;
          old = λ l. (ap (λ (v : List ℕ). list_in v k) i.words ∙ sym (i.list (list_in w k)), λ a b. absurd (i.barred a b));
          new = λ l. absurd (omega arith);
          full = λ l. absurd (omega arith);
        }

    moved : Moved w w₁ R k s t x → Made w w₁ R k s t x
    moved m = go (dec_lt x k)
      where
        n : State
        n = advanced R s t

        p : Placed w k (advanced R s t) x
        p = m.included.placed

        go : Dec (x < k) → Made w w₁ R k s t x
        go (yes l) =
            let q = m.included.old l in
            record {
              size = ap length q;
              low = λ j z. ap (λ (v : List ℕ). get_or v j 0) q;
              high = λ j z. ap (λ (v : List ℕ). get_or v j 0) q;
              states = λ j z. ap (λ (v : List ℕ). state_of v j) q;
              most = omega arith;
              old = λ z. (
                included_old R (rule_right R) w k (advanced R s t) x p m.included l ∙ sym (m.list (list_in w k)),
                λ a b. ap (λ (v : List ℕ). state_of v x) q ∙ p.there l,
              );
              new = λ z. absurd (omega arith);
              full = λ z. absurd (omega arith);
            }
        go (no l) = full (dec_lt k 256)
          where
            full : Dec (k < 256) → Made w w₁ R k s t x
            full (yes f) =
                let q = m.included.new (omega arith) f in
                record {
                  size = ap length q ∙ put_size w k (advanced R s t);
                  low = λ j l. ap (λ (v : List ℕ). get_or v j 0) q ∙ put_low w k (advanced R s t) j l;
                  high = λ j z. ap (λ (v : List ℕ). get_or v j 0) q ∙ put_high w k (advanced R s t) j f z;
                  states = λ j z. ap (λ (v : List ℕ). state_of v j) q ∙ put_state_other w k (advanced R s t) f room j (omega arith) (λ e. omega arith);
                  most = p.most;
                  old = λ z. absurd (omega arith);
                  new = λ l f. (
                    included_new R (rule_right R) w k (advanced R s t) x p m.included room l f ∙ sym (m.list (list_in w k)),
                    ap (λ (v : List ℕ). state_of v k) q ∙ put_state_lem w k (advanced R s t) f room,
                  );
                  full = λ l. ap length (m.list (list_in w k)) ∙ included_full R (rule_right R) w k (advanced R s t) x p l;
                }
            full (no f) =
                let q = m.included.full (omega arith) (omega arith) in
                record {
                  size = ap length q;
                  low = λ j l. ap (λ (v : List ℕ). get_or v j 0) q;
                  high = λ j l. ap (λ (v : List ℕ). get_or v j 0) q;
                  states = λ j l. ap (λ (v : List ℕ). state_of v j) q;
                  most = p.most;
                  old = λ z. absurd (omega arith);
                  new = λ l z. absurd (omega arith);
                  full = λ l. ap length (m.list (list_in w k)) ∙ included_full R (rule_right R) w k (advanced R s t) x p l;
                }

-- the word of the table written
module _ (w : List ℕ) (slot x : ℕ) (low : slot < 9984) where
  note_other : (j : ℕ) → (j ≡ slot → ⊥) → get_or (set w slot x) j 0 ≡ get_or w j 0
  note_other j ne = get_or-set_other w slot j x 0 ne

  note_state : (i : ℕ) → i < 256 → state_of (set w slot x) i ≡ state_of w i
  note_state i l = state_kept w (set w slot x) (λ j a b. note_other j (λ e. omega arith)) i l

module _ (w w₁ : List ℕ) (R : Rules) (k : ℕ) (s : State) (at t x : ℕ) (m : Made w w₁ R k s t x) (inside : at < k) (few : k ≤ 256)
    (room : 11264 ≤ length w) (t_some : 1 ≤ t) (t-few : t ≤ 32) where
  slot : ℕ
  slot = 1791 + at * 32 + t

  slot_low : slot < 9984
  unfolding slot
  slot_low = omega arith

  noted : get_or (set w₁ slot x) slot 0 ≡ x
  unfolding slot
  noted = get_or-set_same w₁ slot x 0 (omega (arith, m.size))

  pub turned_old : (w' : List ℕ) → w' ≡ set w₁ (1791 + at * 32 + t) x → x < k → Turned w w' R k s at t k
  unfolding slot
  turned_old w' e l =
      subst (λ (v : List ℕ). Turned w v R k s at t k) (sym e)
      (record {
        size = simp length-set m.size;
        grown = omega arith;
        list = λ r. list_same w₁ (set w₁ slot x) k (λ i n. note_state w₁ slot x slot_low i (omega arith)) ∙ (m.old l).0;
        over = λ r. absurd (omega arith);
        target = λ r. record {
          inside = subst (λ (y : ℕ). y < k) (sym noted) l;
          leads = λ a b.
              ap (state_of (set w₁ slot x)) noted ∙ note_state w₁ slot x slot_low x (omega arith) ∙ (m.old l).1 a b;
        };
        states = λ i n. note_state w₁ slot x slot_low i (omega arith) ∙ m.states i n;
        words = λ j n ne. note_other w₁ slot x slot_low j ne ∙ m.low j n;
        high = λ j n. note_other w₁ slot x slot_low j (λ e. omega (arith, slot_low)) ∙ m.high j n;
        stocked = λ r h i n.
            subst (λ (y : State). y.position < 8) (sym (note_state w₁ slot x slot_low i (omega arith) ∙ m.states i n)) (h i n);
      })

  pub turned_full : k ≤ x → 255 < k → Turned w w₁ R k s at t 257
  turned_full l f =
      record {
        size = m.size;
        grown = omega arith;
        list = λ r. absurd (omega arith);
        over = λ r. omega (arith, m.full l);
        target = λ r. absurd (omega arith);
        states = m.states;
        words = λ j n ne. m.low j n;
        high = m.high;
        stocked = λ r. absurd (omega arith);
      }

  pub turned_new : (w' : List ℕ) → w' ≡ set w₁ (1791 + at * 32 + t) x → k ≤ x → k ≤ 255 → Turned w w' R k s at t (k + 1)
  unfolding slot
  turned_new w' e l f =
      let xk : x ≡ k = omega (arith, m.most) in
      let o = m.new l (omega arith) in
      let one : k + 1 ≡ suc k = add-one k in
      subst (λ (v : List ℕ). Turned w v R k s at t (k + 1)) (sym e)
      (record {
        size = simp length-set m.size;
        grown = omega arith;
        list = λ r. ap (list_in (set w₁ slot x)) one ∙ list_same w₁ (set w₁ slot x) (suc k) (λ i n. note_state w₁ slot x slot_low i (omega arith)) ∙ o.0;
        over = λ r. absurd (omega arith);
        target = λ r. record {
          inside = subst (λ (y : ℕ). y < k + 1) (sym (noted ∙ xk)) (omega arith);
          leads = λ a b.
              ap (state_of (set w₁ slot x)) (noted ∙ xk) ∙ note_state w₁ slot x slot_low k (omega arith) ∙ o.1;
        };
        states = λ i n. note_state w₁ slot x slot_low i (omega arith) ∙ m.states i n;
        words = λ j n ne. note_other w₁ slot x slot_low j ne ∙ m.low j n;
        high = λ j n. note_other w₁ slot x slot_low j (λ e. omega (arith, slot_low)) ∙ m.high j n;
        stocked = λ r h i n. place h i (dec_lt i k) n;
      })
    where
      place : Stocked w k → (i : ℕ) → Dec (i < k) → i < k + 1 → (state_of (set w₁ slot x) i).position < 8
      place h i (yes n) = λ u. subst (λ (y : State). y.position < 8) (sym (note_state w₁ slot x slot_low i (omega arith) ∙ m.states i n)) (h i n)
      place h i (no n) = λ u.
          let q : i ≡ k = omega arith in
          subst (λ (y : State). y.position < 8)
          (sym (ap (state_of (set w₁ slot x)) q ∙ note_state w₁ slot x slot_low k (omega arith) ∙ (m.new l (omega arith)).1))
          (position_low R s.position)
