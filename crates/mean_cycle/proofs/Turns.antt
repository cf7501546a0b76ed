-- The loops of climb and trace: their invariants, and what a turn keeps. Assumes nothing.
use mathlib.Core.Path.{◌≡◌, refl, sym, subst, ◌∙◌}
use mathlib.Core.List.{List}
use Prim.Native.Nat.{ℕ, zero, suc, ◌+◌, ◌*◌, ◌-◌, ◌≤◌, ◌<◌}
use native.Mathlib.Nat.{add-zero, not-le_of_lt, not-suc-le-zero}
use native.Mathlib.Omega.{arith}
use lib.ListN.{length, set, length-set}
use lib.Seq.{get_or-set_same, get_or-set_other}
use Rattle.mean_cycle.specs.Nodes.{cyc}
use Rattle.mean_cycle.specs.Inner.{parent, label, Rooted, Path, Off, up_sum, Spelled, Climbed, Within}

-- climb
pub record Climbing (w : List ℕ) (n v x y k : ℕ) : Type 0 where
  pub here : y < n
  pub left : ℕ
  pub rooted : Rooted (parent w) n left y
  pub short : k + left < n
  pub met : (j z : ℕ) → Path (parent w) n j y z → Path (parent w) n (k + j) v z
  pub off : (d : ℕ) → Off (parent w) n d y x → Off (parent w) n (k + d) v x

climb_left : (p : ℕ → ℕ) (n d y k : ℕ) → p y < n → Rooted p n d y → k + d < n → (e : ℕ) × (Rooted p n e (p y) × (k + 1 + e < n))
climb_left p n zero y k l h s = absurd (not-le_of_lt l h)
climb_left p n (suc d) y k l h s = (d, (h.1, omega arith))

pub climb_more : {w : List ℕ} {n v x y k : ℕ} → Climbing w n v x y k → (y ≡ x → ⊥) → parent w y < n → Climbing w n v x (parent w y) (k + 1)
climb_more {w} {n} {v} {x} {y} {k} c ne l =
    let s : (e : ℕ) × (Rooted (parent w) n e (parent w y) × (k + 1 + e < n)) =
    climb_left (parent w) n c.left y k l c.rooted c.short
    in
    let shift : (j : ℕ) → k + suc j ≡ k + 1 + j = λ j. omega arith in
    record {
      here = l;
      left = s.0;
      rooted = s.1.0;
      short = s.1.1;
      met = λ j z h. subst (λ (m : ℕ). Path (parent w) n m v z) (shift j) (c.met (suc j) z (l, h));
      off = λ d h. subst (λ (m : ℕ). Off (parent w) n m v x) (shift d) (c.off (suc d) (ne, (l, h)));
    }

pub climb_met : {w : List ℕ} {n v x y k : ℕ} → Climbing w n v x y k → k < n → y ≡ x → Climbed w n v x k
climb_met {w} {n} {v} {x} {y} {k} c l e =
    record {
      met = λ q. subst (λ (m : ℕ). Path (parent w) n m v x) (add-zero k) (c.met 0 x e);
      missed = λ q. absurd (omega arith);
    }

pub climb_missed : {w : List ℕ} {n v x y k : ℕ} → Climbing w n v x y k → (y ≡ x → ⊥) → n ≤ parent w y → Climbed w n v x n
climb_missed {w} {n} {v} {x} {y} {k} c ne l =
    record { met = λ q. absurd (omega arith); missed = λ q. (k + 0, c.off 0 (ne, l)) }

-- trace
pub record Tracing (w₀ w : List ℕ) (n v t k x sum y j : ℕ) : Type 0 where
  pub within : Within 1536 1792 w₀ w
  pub small : j ≤ k
  pub here : y < n
  pub path : Path (parent w₀) n j y x
  pub total : sum + up_sum (parent w₀) (label w₀) j y ≡ t + up_sum (parent w₀) (label w₀) k v
  pub few : sum + 32 * j ≤ 32 + 32 * k
  pub spells :
      (c : ℕ → ℕ) → ((i : ℕ) → j ≤ i → i < k → c i ≡ cyc w i) → Spelled (parent w₀) (label w₀) c j y → Spelled (parent w₀) (label w₀) c k v

pub trace_start : {w : List ℕ} {n v t k x : ℕ} → v < n → t ≤ 32 → Path (parent w) n k v x → Tracing w w n v t k x t v k
trace_start {w} l few path =
    record {
      within = record { size = refl; below = λ i l. refl; above = λ i l. refl };
      small = omega arith;
      here = l;
      path = path;
      total = refl;
      few = omega arith;
      spells = λ c e s. s;
    }

traced_label : {w₀ w : List ℕ} {n v t k x sum y j : ℕ} → Tracing w₀ w n v t k x sum y j → n ≤ 256 → label w y ≡ label w₀ y
traced_label {y = y} c few = c.within.below (1280 + y) (omega (arith, c.here))

traced_parent : {w₀ w : List ℕ} {n v t k x sum y j : ℕ} → Tracing w₀ w n v t k x sum y j → n ≤ 256 → parent w y ≡ parent w₀ y
traced_parent {y = y} c few = c.within.below (1024 + y) (omega (arith, c.here))

module _ (w₀ w : List ℕ) (n v t k x sum y : ℕ) (room : 2048 ≤ length w₀) (few : n ≤ 256) (kn : k < n)
    (low : (y : ℕ) → y < n → parent w₀ y < n → label w₀ y ≤ 32) where
  trace_suc : (j : ℕ) → Tracing w₀ w n v t k x sum y (suc j)
      → Tracing w₀ (set w (1536 + j) (label w y)) n v t k x (sum + label w y) (parent w y) j
  trace_suc j c =
      let pe : parent w y ≡ parent w₀ y = traced_parent c few in
      let le : label w y ≡ label w₀ y = traced_label c few in
      let pl : parent w₀ y < n = c.path.0 in
      let lo : label w₀ y ≤ 32 = low y c.here pl in
      subst
      (λ (z : ℕ). Tracing w₀ (set w (1536 + j) (label w y)) n v t k x (sum + label w y) z j)
      (sym pe)
      (record {
        within =
            record {
              size = simp length-set c.within.size;
              below = λ i l. get_or-set_other w (1536 + j) i (label w y) 0 (λ e. omega arith) ∙ c.within.below i l;
              above = λ i l. get_or-set_other w (1536 + j) i (label w y) 0 (λ e. omega (arith, c.small)) ∙ c.within.above i l;
            };
        small = omega (arith, c.small);
        here = pl;
        path = c.path.1;
        total = omega (arith, c.total);
        few = omega (arith, c.few);
        spells = λ f same s.
            c.spells
            f
            (λ i l m. same i (omega arith) m ∙ get_or-set_other w (1536 + j) (1536 + i) (label w y) 0 (λ e. omega arith))
            (same j (omega arith) (omega (arith, c.small)) ∙ get_or-set_same w (1536 + j) (label w y) 0 (omega (arith, c.within.size, c.small)) ∙ le, s);
      })

  less_one : (j : ℕ) → j ≡ suc j - 1
  less_one j = omega arith

  pub trace_more : (j : ℕ) → 0 < j → Tracing w₀ w n v t k x sum y j
      → Tracing w₀ (set w (1536 + (j - 1)) (label w y)) n v t k x (sum + label w y) (parent w y) (j - 1)
  trace_more zero l c = absurd (not-suc-le-zero l)
  trace_more (suc j) l c =
      subst
      (λ (z : ℕ). Tracing w₀ (set w (1536 + z) (label w y)) n v t k x (sum + label w y) (parent w y) z)
      (less_one j)
      (trace_suc j c)
