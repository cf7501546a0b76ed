-- States in the working words. Assumes nothing.
use mathlib.Core.Path.{◌≡◌, refl, sym, ap, ap₂, ◌∙◌}
use mathlib.Core.Bool.{true, false, cond}
use mathlib.Core.List.{List, [], ◌∷◌, ◌++◌}
use Prim.Native.Nat.{ℕ, zero, suc, ◌+◌, ◌≤◌, ◌<◌}
use native.Mathlib.Nat.{not-suc-le-zero, eq-or-lt_of_le, le_of_suc-le-suc}
use native.Mathlib.Omega.{arith}
use mathlib.Core.Logic.{◌⊎◌, inl, inr}
use lib.ListN.{length, get_or, set, length-set, length-append, get_or-append}
use lib.Seq.{get_or-set_same, get_or-set_other, get_or_at}
use Rattle.words.proofs.Tests.{T_true, true_T, not_passed}
use Rattle.graphs.specs.Graph.{Listed}
use Rattle.graphs.specs.States.{Right, has, add}
use Rattle.graphs.proofs.ListLaws.{has_listed, listed_has}
use Rattle.loops.specs.declared.State.{State}
use Rattle.loops.specs.declared.steps.Rules.{Rules}
use Rattle.loops.specs.Inner.{state_of, put_state, list_in, Placed, Included, rule_graph, rule_tests, rule_first}

-- A state put into its place

module _ (w : List ℕ) (i : ℕ) (s : State) where
  abbrev w1 : List ℕ
  w1 = set w (9984 + i) s.position

  abbrev w2 : List ℕ
  w2 = set w1 (10240 + i) s.bank.r1

  abbrev w3 : List ℕ
  w3 = set w2 (10496 + i) s.bank.r2

  abbrev w4 : List ℕ
  w4 = set w3 (10752 + i) s.bank.r3

  pub put_size : length (put_state w i s) ≡ length w
  put_size = simp length-set

  -- every other word stays
  pub put_other : (j : ℕ) → (j ≡ 9984 + i → ⊥) → (j ≡ 10240 + i → ⊥) → (j ≡ 10496 + i → ⊥) → (j ≡ 10752 + i → ⊥) → (j ≡ 11008 + i → ⊥)
      → get_or (put_state w i s) j 0 ≡ get_or w j 0
  put_other j a b c d e =
      get_or-set_other w4 (11008 + i) j s.bank.r4 0 e ∙ get_or-set_other w3 (10752 + i) j s.bank.r3 0 d
      ∙ get_or-set_other w2 (10496 + i) j s.bank.r2 0 c ∙ get_or-set_other w1 (10240 + i) j s.bank.r1 0 b
      ∙ get_or-set_other w (9984 + i) j s.position 0 a

  pub put_low : (j : ℕ) → j < 9984 → get_or (put_state w i s) j 0 ≡ get_or w j 0
  put_low j h = put_other j (λ e. omega arith) (λ e. omega arith) (λ e. omega arith) (λ e. omega arith) (λ e. omega arith)

  pub put_high : (j : ℕ) → i < 256 → 11264 ≤ j → get_or (put_state w i s) j 0 ≡ get_or w j 0
  put_high j l h = put_other j (λ e. omega arith) (λ e. omega arith) (λ e. omega arith) (λ e. omega arith) (λ e. omega arith)

  module _ (inside : i < 256) (room : 11264 ≤ length w) where
    put_0 : get_or (put_state w i s) (9984 + i) 0 ≡ s.position
    put_0 =
        get_or-set_other w4 (11008 + i) (9984 + i) s.bank.r4 0 (λ e. omega arith) ∙ get_or-set_other w3 (10752 + i) (9984 + i) s.bank.r3 0 (λ e. omega arith)
        ∙ get_or-set_other w2 (10496 + i) (9984 + i) s.bank.r2 0 (λ e. omega arith) ∙ get_or-set_other w1 (10240 + i) (9984 + i) s.bank.r1 0 (λ e. omega arith)
        ∙ get_or-set_same w (9984 + i) s.position 0 (omega arith)

    put_1 : get_or (put_state w i s) (10240 + i) 0 ≡ s.bank.r1
    put_1 =
        get_or-set_other w4 (11008 + i) (10240 + i) s.bank.r4 0 (λ e. omega arith) ∙ get_or-set_other w3 (10752 + i) (10240 + i) s.bank.r3 0 (λ e. omega arith)
        ∙ get_or-set_other w2 (10496 + i) (10240 + i) s.bank.r2 0 (λ e. omega arith) ∙ get_or-set_same w1 (10240 + i) s.bank.r1 0 (simp length-set (omega arith))

    put_2 : get_or (put_state w i s) (10496 + i) 0 ≡ s.bank.r2
    put_2 =
        get_or-set_other w4 (11008 + i) (10496 + i) s.bank.r4 0 (λ e. omega arith) ∙ get_or-set_other w3 (10752 + i) (10496 + i) s.bank.r3 0 (λ e. omega arith)
        ∙ get_or-set_same w2 (10496 + i) s.bank.r2 0 (simp length-set (omega arith))

    put_3 : get_or (put_state w i s) (10752 + i) 0 ≡ s.bank.r3
    put_3 =
        get_or-set_other w4 (11008 + i) (10752 + i) s.bank.r4 0 (λ e. omega arith) ∙ get_or-set_same w3 (10752 + i) s.bank.r3 0 (simp length-set (omega arith))

    put_4 : get_or (put_state w i s) (11008 + i) 0 ≡ s.bank.r4
    put_4 = get_or-set_same w4 (11008 + i) s.bank.r4 0 (simp length-set (omega arith))

    pub put_state_lem : state_of (put_state w i s) i ≡ s
    put_state_lem = λ k. record { position = put_0 k; bank = record { r1 = put_1 k; r2 = put_2 k; r3 = put_3 k; r4 = put_4 k } }

    pub put_state_other : (j : ℕ) → j < 256 → (j ≡ i → ⊥) → state_of (put_state w i s) j ≡ state_of w j
    put_state_other j l ne = λ k. record {
      position = put_other (9984 + j) (λ e. ne (omega arith)) (λ e. omega arith) (λ e. omega arith) (λ e. omega arith) (λ e. omega arith) k;
      bank = record {
        r1 = put_other (10240 + j) (λ e. omega arith) (λ e. ne (omega arith)) (λ e. omega arith) (λ e. omega arith) (λ e. omega arith) k;
        r2 = put_other (10496 + j) (λ e. omega arith) (λ e. omega arith) (λ e. ne (omega arith)) (λ e. omega arith) (λ e. omega arith) k;
        r3 = put_other (10752 + j) (λ e. omega arith) (λ e. omega arith) (λ e. omega arith) (λ e. ne (omega arith)) (λ e. omega arith) k;
        r4 = put_other (11008 + j) (λ e. omega arith) (λ e. omega arith) (λ e. omega arith) (λ e. omega arith) (λ e. ne (omega arith)) k;
      };
    }

-- the state of equal words
pub state_kept : (w w' : List ℕ) → ((j : ℕ) → 9984 ≤ j → j < 11264 → get_or w' j 0 ≡ get_or w j 0) → (i : ℕ) → i < 256 → state_of w' i ≡ state_of w i
state_kept w w' h i l = λ k. record {
  position = h (9984 + i) (omega arith) (omega arith) k;
  bank = record {
    r1 = h (10240 + i) (omega arith) (omega arith) k;
    r2 = h (10496 + i) (omega arith) (omega arith) k;
    r3 = h (10752 + i) (omega arith) (omega arith) k;
    r4 = h (11008 + i) (omega arith) (omega arith) k;
  };
}

-- The list of the first states

pub list_length : (w : List ℕ) (k : ℕ) → length (list_in w k) ≡ k
list_length w zero = refl
list_length w (suc k) = let r = list_length w k in length-append (list_in w k) (state_of w k ∷ []) ∙ omega arith

pub list_at : (w : List ℕ) (d : State) (k i : ℕ) → i < k → get_or (list_in w k) i d ≡ state_of w i
list_at w d zero i h = absurd (not-suc-le-zero h)
list_at w d (suc k) i h = pick (eq-or-lt_of_le (le_of_suc-le-suc h)) (list_at w d k i)
  where
    pick : (i ≡ k) ⊎ (i < k) → (i < k → get_or (list_in w k) i d ≡ state_of w i) → get_or (list_in w k ++ (state_of w k ∷ [])) i d ≡ state_of w i
    pick (inl e) r = get_or_at (list_in w k) (state_of w k) [] d i (list_length w k ∙ sym e) ∙ ap (state_of w) (sym e)
    pick (inr l) r = get_or-append (list_in w k) (state_of w k ∷ []) d i (omega (arith, list_length w k)) ∙ r l

pub list_same : (w w' : List ℕ) (k : ℕ) → ((i : ℕ) → i < k → state_of w' i ≡ state_of w i) → list_in w' k ≡ list_in w k
list_same w w' zero h = refl
list_same w w' (suc k) h =
    ap₂ (λ (a : List State) (b : State). a ++ (b ∷ [])) (list_same w w' k (λ i l. h i (omega arith))) (h k (omega arith))

-- A state included

module _ (R : Rules) (right : Right (rule_graph R) (rule_tests R)) (w : List ℕ) (k : ℕ) (s : State) (r : ℕ) (p : Placed w k s r) where
  add_old : r < k → add (rule_graph R) (rule_tests R) s (list_in w k) ≡ list_in w k
  add_old l =
      let e : has (rule_graph R) (rule_tests R) s (list_in w k) ≡ true =
      T_true _ (listed_has (rule_graph R) (rule_tests R) right s (list_in w k) r (omega (arith, list_length w k)) (list_at w (rule_first R) k r l ∙ p.there l)) in
      ap (λ b. cond b (list_in w k) (list_in w k ++ (s ∷ []))) e

  add_new : k ≤ r → add (rule_graph R) (rule_tests R) s (list_in w k) ≡ list_in w k ++ (s ∷ [])
  add_new l =
      let e : has (rule_graph R) (rule_tests R) s (list_in w k) ≡ false =
      not_passed _ (λ b.
      let f : Listed (rule_graph R) s (list_in w k) = has_listed (rule_graph R) (rule_tests R) right s (list_in w k) (true_T b) in
      let i : f.index < k = omega (arith, f.inside, list_length w k) in
      p.none l f.index i (sym (list_at w (rule_first R) k f.index i) ∙ f.found)) in
      ap (λ b. cond b (list_in w k) (list_in w k ++ (s ∷ []))) e

  pub included_old : {w' : List ℕ} → Included w w' k s r → r < k → list_in w' k ≡ add (rule_graph R) (rule_tests R) s (list_in w k)
  included_old h l = ap (λ (v : List ℕ). list_in v k) (h.old l) ∙ sym (add_old l)

  pub included_new : {w' : List ℕ} → Included w w' k s r → 11264 ≤ length w → k ≤ r → k < 256 → list_in w' (suc k) ≡ add (rule_graph R) (rule_tests R) s (list_in w k)
  included_new {w'} h room l m =
      ap (λ (v : List ℕ). list_in v (suc k)) (h.new l m)
      ∙ ap₂ (λ (a : List State) (b : State). a ++ (b ∷ [])) (list_same w (put_state w k s) k (λ i n. put_state_other w k s m room i (omega arith) (λ e. omega arith)))
      (put_state_lem w k s m room)
      ∙ sym (add_new l)

  pub included_full : k ≤ r → length (add (rule_graph R) (rule_tests R) s (list_in w k)) ≡ suc k
  included_full l = ap length (add_new l) ∙ length-append (list_in w k) (s ∷ []) ∙ let n = list_length w k in omega arith
