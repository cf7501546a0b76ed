-- Fractions S / K as pairs of numbers: their order, and lowest terms. Assumes nothing.
use Prim.Native.Nat.{ℕ, ◌+◌, ◌*◌, ◌%◌, ◌/◌, ◌≤◌, ◌<◌}
use mathlib.Core.Path.{◌≡◌, sym, ap, ◌∙◌}
use native.Mathlib.Nat.{mul_right_comm, mul-le-mul_right, mul-lt-mul_of_pos_right, le_of_mul-le-mul_right, lt_of_mul-lt-mul_right, eq_of_mul-eq-mul_right, mul-le-mul, eq-or-lt_of_le, mul-mod_left, div-add-mod', le_antisymm}
use mathlib.Core.Logic.{◌⊎◌, inl, inr}
use native.Mathlib.Decide.{dec_lt}
use native.Mathlib.Omega.{arith}
use Rattle.table_totals.specs.Totals.{Lowest}
use Rattle.table_totals.specs.Inner.{Fitting, Reduced}

-- Products that fit a word

pub cross_fits : {S K T L : ℕ} → Fitting S K → Fitting T L → S * L ≤ 16777216
cross_fits f g = mul-le-mul {n₂ = 65536} {m₂ = 256} (omega (arith, f.low)) g.few

-- The order

-- S / K ≤ T / L ≤ p / q
pub at_most : (S K T L p q : ℕ) → 1 ≤ L → S * L ≤ T * K → T * q ≤ p * L → S * q ≤ p * K
at_most S K T L p q pos h k =
    le_of_mul-le-mul_right {m = S * q} {n = p * K} {k = L}
    (omega (arith, mul_right_comm S q L, mul-le-mul_right q h, mul_right_comm T K q, mul-le-mul_right K k, mul_right_comm p L K)) pos

-- S / K ≤ T / L < p / q
pub below : (S K T L p q : ℕ) → 1 ≤ K → S * L ≤ T * K → T * q < p * L → S * q < p * K
below S K T L p q pos h k =
    lt_of_mul-lt-mul_right L {m = S * q} {n = p * K}
    (omega (arith, mul_right_comm S q L, mul-le-mul_right q h, mul_right_comm T K q, mul-lt-mul_of_pos_right k pos, mul_right_comm p L K))

-- S / K < T / L ≤ p / q
pub below_most : (S K T L p q : ℕ) → 1 ≤ q → S * L < T * K → T * q ≤ p * L → S * q < p * K
below_most S K T L p q pos h k =
    lt_of_mul-lt-mul_right L {m = S * q} {n = p * K}
    (omega (arith, mul_right_comm S q L, mul-lt-mul_of_pos_right h pos, mul_right_comm T K q, mul-le-mul_right K k, mul_right_comm p L K))

-- equal fractions: S / K = T / L = p / q
pub same : (S K T L p q : ℕ) → 1 ≤ L → S * L ≡ T * K → T * q ≡ p * L → S * q ≡ p * K
same S K T L p q pos h k =
    eq_of_mul-eq-mul_right L pos (S * q) (p * K)
    (mul_right_comm S q L ∙ ap (λ x. x * q) h ∙ mul_right_comm T K q ∙ ap (λ x. x * K) k ∙ mul_right_comm p L K)

-- two fractions of the same value in lowest terms have one denominator and one numerator
pub lowest_unique : (p q a b : ℕ) → Lowest p q → Lowest a b → a * q ≡ p * b → (a ≡ p) × (b ≡ q)
lowest_unique p q a b h k e =
    let d : b ≡ q = le_antisymm (k.least p q h.positive (sym e)) (h.least a b k.positive e) in
    (eq_of_mul-eq-mul_right q h.positive a p (e ∙ ap (λ x. p * x) d), d)

-- The search for the least denominator

not_below : (b q : ℕ) → (b < q → ⊥) → q ≤ b
not_below b q h = go (dec_lt b q)
  where
    go : Dec (b < q) → q ≤ b
    go (yes l) = absurd (h l)
    go (no n) = omega arith

-- no denominator before q makes S × q a multiple of K
pub record Passed (S K q : ℕ) : Type 0 where
  pub least : 1 ≤ q
  pub most : q ≤ K
  pub none : (b : ℕ) → 1 ≤ b → b < q → S * b % K ≡ 0 → ⊥

-- q itself does not; K does, so q is not yet K
pub passed_more : {S K q : ℕ} → Fitting S K → Passed S K q → (S * q % K ≡ 0 → ⊥) → Passed S K (q + 1)
passed_more {S} {K} {q} f p ne = record { least = omega arith; most = most (eq-or-lt_of_le p.most); none = λ b h l. none b h (eq-or-lt_of_le {n = b} {m = q} (omega arith)) }
  where
    most : (q ≡ K) ⊎ (q < K) → q + 1 ≤ K
    most (inl e) = absurd (ne (ap (λ x. S * x % K) e ∙ mul-mod_left S K))
    most (inr l) = omega arith

    none : (b : ℕ) → 1 ≤ b → (b ≡ q) ⊎ (b < q) → S * b % K ≡ 0 → ⊥
    none b h (inl e) z = ne (ap (λ x. S * x % K) (sym e) ∙ z)
    none b h (inr l) z = p.none b h l z

-- the first denominator q that makes S × q a multiple of K gives the lowest terms
pub reduced : (S K q : ℕ) → 1 ≤ K → 1 ≤ q → S * q % K ≡ 0 → ((b : ℕ) → 1 ≤ b → b < q → S * b % K ≡ 0 → ⊥) → Reduced S K (S * q / K) q
reduced S K q pos posq e none =
    let p : ℕ = S * q / K in
    let s : S * q ≡ p * K = omega (arith, div-add-mod' (S * q) K) in
    record {
      same = s;
      lowest = record {
        positive = posq;
        least = λ a b posb h.
            let f : a * K ≡ S * b = same a b p q S K posq h (sym s) in
            let z : S * b % K ≡ 0 = ap (λ x. x % K) (sym f) ∙ mul-mod_left a K in
            not_below b q (λ l. none b posb l z);
      };
    }
