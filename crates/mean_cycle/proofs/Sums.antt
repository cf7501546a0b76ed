-- Sums, and the measures that fall. Assumes nothing.
use mathlib.Core.Path.{◌≡◌, refl, ap, subst, ◌∙◌}
use mathlib.Core.Logic.{⊎_elim}
use Prim.Native.Nat.{ℕ, zero, suc, ◌+◌, ◌*◌, ◌/◌, ◌≤◌, ◌<◌, zero-le}
use native.Mathlib.Nat.{not-suc-le-zero, eq-or-lt_of_le, le_of_suc-le-suc, suc-mul, mul-add, mul_comm, mul_left_comm, le-div_iff_mul-le, div-mul-le_self, mul-le-mul_left, mul-le-mul, le_of_mul-le-mul_left}
use native.Mathlib.Omega.{arith}
use Rattle.mean_cycle.specs.Nodes.{sum_to}
use Rattle.mean_cycle.specs.Inner.{up_sum, Spelled}

pub sum_same : (f g : ℕ → ℕ) (n : ℕ) → ((y : ℕ) → y < n → g y ≡ f y) → sum_to g n ≡ sum_to f n
sum_same f g zero h = refl
sum_same f g (suc m) h =
    let r : sum_to g m ≡ sum_to f m = sum_same f g m (λ y l. h y (omega arith)) in
    let s : g m ≡ f m = h m (omega arith) in
    omega arith

pub sum_grown :
    (f g : ℕ → ℕ) (n x : ℕ) → x < n → ((y : ℕ) → y < n → (y ≡ x → ⊥) → g y ≡ f y) → f x < g x → sum_to f n + 1 ≤ sum_to g n
sum_grown f g zero x l h lt = absurd (not-suc-le-zero l)
sum_grown f g (suc m) x l h lt =
    ⊎_elim
    (λ e.
    let r : sum_to g m ≡ sum_to f m = sum_same f g m (λ y q. h y (omega arith) (λ z. omega arith)) in
    let s : f m < g m = subst (λ (z : ℕ). f z < g z) e lt in
    omega arith)
    (λ q.
    let r : sum_to f m + 1 ≤ sum_to g m = sum_grown f g m x q (λ y a b. h y (omega arith) b) lt in
    let s : g m ≡ f m = h m (omega arith) (λ z. omega arith) in
    omega arith)
    (eq-or-lt_of_le (le_of_suc-le-suc l))

pub sum_below : (f : ℕ → ℕ) (n b : ℕ) → ((y : ℕ) → y < n → f y ≤ b) → sum_to f n ≤ n * b
sum_below f zero b h = zero-le
sum_below f (suc m) b h =
    let r : sum_to f m ≤ m * b = sum_below f m b (λ y l. h y (omega arith)) in
    let s : f m ≤ b = h m (omega arith) in
    omega (arith, suc-mul m b)

pub spelled_sum : (p l c : ℕ → ℕ) (k v : ℕ) → Spelled p l c k v → sum_to c k ≡ up_sum p l k v
spelled_sum p l c zero v s = refl
spelled_sum p l c (suc k) v s =
    let r : sum_to c k ≡ up_sum p l k (p v) = spelled_sum p l c k (p v) s.1 in
    let h : c k ≡ l v = s.0 in
    omega arith

-- the mean in parts of 65536 falls
pub mean_falls :
    (k s k' s' : ℕ) → 1 ≤ k → 1 ≤ k' → k ≤ 256 → k' ≤ 256 → k * s' < k' * s → 65536 * s' / k' < 65536 * s / k
mean_falls k s k' s' pk pk' bk bk' lt =
    let q : ℕ = 65536 * s' / k' in
    (le-div_iff_mul-le pk).1 (le_of_mul-le-mul_left {k = k'} (bound q (div-mul-le_self (65536 * s') k')) pk')
  where
    bound : (q : ℕ) → q * k' ≤ 65536 * s' → k' * (suc q * k) ≤ k' * (65536 * s)
    bound q h =
        let a : k * (q * k') ≤ k * (65536 * s') = mul-le-mul_left k h in
        let b : k' * k ≤ 256 * 256 = mul-le-mul bk' bk in
        let e : k' * (suc q * k) ≡ k * (q * k') + k' * k =
        ap (λ (z : ℕ). k' * z) (suc-mul q k) ∙ mul-add k' (q * k) k ∙ ap (λ (z : ℕ). z + k' * k) (ap (λ (z : ℕ). k' * z) (mul_comm q k) ∙ mul_left_comm k' k q ∙ ap (λ (z : ℕ). k * z) (mul_comm k' q))
        in
        let g : k * (65536 * s') ≡ 65536 * (k * s') = mul_left_comm k 65536 s' in
        let i : k' * (65536 * s) ≡ 65536 * (k' * s) = mul_left_comm k' 65536 s in
        omega arith
