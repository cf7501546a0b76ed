-- Links: depths, paths, the pigeonhole, and what a relink keeps. Assumes nothing.
use mathlib.Core.Path.{◌≡◌, refl, sym, ap, subst, ◌∙◌}
use Prim.Native.Nat.{ℕ, zero, suc, ◌+◌, ◌*◌, ◌-◌, ◌≤◌, ◌<◌, zero-le}
use native.Mathlib.Nat.{not-le_of_lt, not-suc-le-zero, le_of_suc-le-suc, sub-zero, suc-sub-suc, mul-add, suc-mul}
use native.Mathlib.Decide.{ℕ_discrete}
use native.Mathlib.Omega.{arith}
use Rattle.mean_cycle.specs.Inner.{Rooted, Path, Off, up, up_sum, Spelled}

module _ (p : ℕ → ℕ) (n : ℕ) where
  one_depth : (d d' y : ℕ) → Rooted p n d y → Rooted p n d' y → d ≡ d'
  one_depth zero zero y h h' = refl
  one_depth zero (suc d') y h h' = absurd (not-le_of_lt h'.0 h)
  one_depth (suc d) zero y h h' = absurd (not-le_of_lt h.0 h')
  one_depth (suc d) (suc d') y h h' = ap suc (one_depth d d' (p y) h.1 h'.1)

  up_rooted : (i d y : ℕ) → i ≤ d → Rooted p n d y → Rooted p n (d - i) (up p i y)
  up_rooted zero d y le h = subst (λ (m : ℕ). Rooted p n m y) (sym (sub-zero d)) h
  up_rooted (suc i) zero y le h = absurd (not-suc-le-zero le)
  up_rooted (suc i) (suc d) y le h =
      subst
      (λ (m : ℕ). Rooted p n m (up p i (p y)))
      (sym (suc-sub-suc d i))
      (up_rooted i d (p y) (le_of_suc-le-suc le) h.1)

  pub up_below : (i d y : ℕ) → i ≤ d → y < n → Rooted p n d y → up p i y < n
  up_below zero d y le lt h = lt
  up_below (suc i) zero y le lt h = absurd (not-suc-le-zero le)
  up_below (suc i) (suc d) y le lt h = up_below i d (p y) (le_of_suc-le-suc le) h.0 h.1

  pub up_apart : (d y i j : ℕ) → Rooted p n d y → i ≤ d → j ≤ d → up p i y ≡ up p j y → i ≡ j
  up_apart d y i j h li lj e =
      let same : d - i ≡ d - j =
      one_depth
      (d - i)
      (d - j)
      (up p j y)
      (subst (λ (z : ℕ). Rooted p n (d - i) z) e (up_rooted i d y li h))
      (up_rooted j d y lj h)
      in
      omega arith

  pub path_depth : (k d v x : ℕ) → Path p n k v x → Rooted p n d v → k ≤ d
  path_depth zero d v x a h = zero-le
  path_depth (suc k) zero v x a h = absurd (not-le_of_lt a.0 h)
  path_depth (suc k) (suc d) v x a h =
      let r : k ≤ d = path_depth k d (p v) x a.1 h.1 in
      omega arith

  pub path_up : (k v x : ℕ) → Path p n k v x → up p k v ≡ x
  path_up zero v x a = a
  path_up (suc k) v x a = path_up k (p v) x a.1

  pub path_part : (i k v x : ℕ) → i < k → Path p n k v x → p (up p i v) < n
  path_part i zero v x l a = absurd (not-suc-le-zero l)
  path_part zero (suc k) v x l a = a.0
  path_part (suc i) (suc k) v x l a = path_part i k (p v) x (le_of_suc-le-suc l) a.1

pub up_suc : (p : ℕ → ℕ) (i v : ℕ) → up p (suc i) v ≡ p (up p i v)
up_suc p zero v = refl
up_suc p (suc i) v = up_suc p i (p v)

-- the pigeonhole: k different numbers below n are at most n
abbrev pub pick : {A : Type 0} → Dec A → ℕ → ℕ → ℕ
pick (yes e) a b = a
pick (no e) a b = b

module _ (f : ℕ → ℕ) (m j : ℕ) (below : (i : ℕ) → i < suc j → f i < suc m)
    (apart : (i i' : ℕ) → i < suc j → i' < suc j → f i ≡ f i' → i ≡ i') where
  pick_below : (i : ℕ) → i < j → (q : Dec (f i ≡ m)) → pick q (f j) (f i) < m
  pick_below i l (yes e) =
      let b : f j < suc m = below j (omega arith) in
      let ne : (f j ≡ m → ⊥) = λ h. let s : i ≡ j = apart i j (omega arith) (omega arith) (e ∙ sym h) in omega arith in
      omega arith
  pick_below i l (no e) =
      let b : f i < suc m = below i (omega arith) in
      omega arith

  pick_apart :
      (i i' : ℕ) → i < j → i' < j → (q : Dec (f i ≡ m)) (q' : Dec (f i' ≡ m)) → pick q (f j) (f i) ≡ pick q' (f j) (f i') → i ≡ i'
  pick_apart i i' l l' (yes e) (yes e') h = apart i i' (omega arith) (omega arith) (e ∙ sym e')
  pick_apart i i' l l' (yes e) (no e') h =
      let s : j ≡ i' = apart j i' (omega arith) (omega arith) h in
      omega arith
  pick_apart i i' l l' (no e) (yes e') h =
      let s : i ≡ j = apart i j (omega arith) (omega arith) h in
      omega arith
  pick_apart i i' l l' (no e) (no e') h = apart i i' (omega arith) (omega arith) h

pub pigeon :
    (n k : ℕ) (f : ℕ → ℕ) → ((i : ℕ) → i < k → f i < n) → ((i j : ℕ) → i < k → j < k → f i ≡ f j → i ≡ j) → k ≤ n
pigeon n zero f below apart = zero-le
pigeon zero (suc j) f below apart = absurd (not-suc-le-zero (below 0 (omega arith)))
pigeon (suc m) (suc j) f below apart =
    let r : j ≤ m =
    pigeon
    m
    j
    (λ i. pick (ℕ_discrete (f i) m) (f j) (f i))
    (λ i l. pick_below f m j below apart i l (ℕ_discrete (f i) m))
    (λ i i' l l' h. pick_apart f m j below apart i i' l l' (ℕ_discrete (f i) m) (ℕ_discrete (f i') m) h)
    in
    omega arith

pub depth_below : (p : ℕ → ℕ) (n d y : ℕ) → y < n → Rooted p n d y → d < n
depth_below p n d y lt h =
    pigeon
    n
    (suc d)
    (λ i. up p i y)
    (λ i l. up_below p n i d y (le_of_suc-le-suc l) lt h)
    (λ i j l l' e. up_apart p n d y i j h (le_of_suc-le-suc l) (le_of_suc-le-suc l') e)

abbrev pub decide : {A B : Type 0} → Dec A → (A → B) → ((A → ⊥) → B) → B
decide (yes a) f g = f a
decide (no h) f g = g h

-- a relink: p' is p but at x, which it links to v
module _ (p p' : ℕ → ℕ) (n x : ℕ) (agree : (y : ℕ) → y < n → (y ≡ x → ⊥) → p' y ≡ p y) where
  pub off_rooted : (d v : ℕ) → v < n → Off p n d v x → Rooted p' n d v
  off_rooted zero v lt h = subst (λ (z : ℕ). n ≤ z) (sym (agree v lt h.0)) h.1
  off_rooted (suc d) v lt h =
      subst
      (λ (z : ℕ). (z < n) × Rooted p' n d z)
      (sym (agree v lt h.0))
      (h.1.0, off_rooted d (p v) h.1.0 h.1.1)

  rerooted_here : (v dv y : ℕ) → v < n → p' x ≡ v → Rooted p' n dv v → y ≡ x → (e : ℕ) × Rooted p' n e y
  rerooted_here v dv y vl link r e =
      (suc dv, subst (λ (z : ℕ). (p' z < n) × Rooted p' n dv (p' z)) (sym e) (subst (λ (z : ℕ). (z < n) × Rooted p' n dv z) (sym link) (vl, r)))

  rerooted_above : (y : ℕ) → y < n → p y < n → (e : ℕ) × Rooted p' n e (p y) → (y ≡ x → ⊥) → (e : ℕ) × Rooted p' n e y
  rerooted_above y lt pl s ne = (suc s.0, subst (λ (z : ℕ). (z < n) × Rooted p' n s.0 z) (sym (agree y lt ne)) (pl, s.1))

  pub rerooted : (v dv : ℕ) → v < n → p' x ≡ v → Rooted p' n dv v → (d y : ℕ) → y < n → Rooted p n d y → (e : ℕ) × Rooted p' n e y
  rerooted v dv vl link r zero y lt h =
      decide (ℕ_discrete y x) (rerooted_here v dv y vl link r) (λ ne. (zero, subst (λ (z : ℕ). n ≤ z) (sym (agree y lt ne)) h))
  rerooted v dv vl link r (suc d) y lt h =
      decide
      (ℕ_discrete y x)
      (rerooted_here v dv y vl link r)
      (rerooted_above y lt h.0 (rerooted v dv vl link r d (p y) h.0 h.1))

-- gains along links
module _ (p l e : ℕ → ℕ) (n count sum : ℕ) (less : (y : ℕ) → y < n → p y < n → e y + count * l y ≤ e (p y) + sum) where
  pub path_less : (k v x : ℕ) → v < n → Path p n k v x → e v + count * up_sum p l k v ≤ e x + k * sum
  path_less zero v x lt a = let s : e v ≡ e x = ap e a in omega arith
  path_less (suc k) v x lt a =
      let s : e v + count * l v ≤ e (p v) + sum = less v lt a.0 in
      let r : e (p v) + count * up_sum p l k (p v) ≤ e x + k * sum = path_less k (p v) x a.0 a.1 in
      omega (arith, mul-add count (l v) (up_sum p l k (p v)), suc-mul k sum)

  pub gain_below : ((y : ℕ) → y < n → n ≤ p y → e y ≡ 0) → (d y : ℕ) → y < n → Rooted p n d y → e y ≤ d * sum
  gain_below base zero y lt h = let s : e y ≡ 0 = base y lt h in omega arith
  gain_below base (suc d) y lt h =
      let s : e y + count * l y ≤ e (p y) + sum = less y lt h.0 in
      let r : e (p y) ≤ d * sum = gain_below base d (p y) h.0 h.1 in
      omega (arith, suc-mul d sum)

-- labels spelled along links
pub spelled_at : (p l c : ℕ → ℕ) (k v i j : ℕ) → Spelled p l c k v → i + suc j ≡ k → c i ≡ l (up p j v)
spelled_at p l c zero v i j s e = absurd (omega arith)
spelled_at p l c (suc k) v i zero s e = let h : i ≡ k = omega arith in ap c h ∙ s.0
spelled_at p l c (suc k) v i (suc j) s e = spelled_at p l c k (p v) i j s.1 (omega arith)
