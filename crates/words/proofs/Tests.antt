-- Boolean tests, as facts. Assumes nothing.
use mathlib.Core.Path.{◌≡◌, refl, sym, ap, subst, ◌∙◌}
use mathlib.Core.Bool.{Bool, true, false, cond, not, ◌&&◌, ◌||◌}
use mathlib.Core.Logic.{◌⊎◌, inl, inr}
use Prim.Native.Nat.{ℕ}
use native.Mathlib.Omega.{arith}
use lib.Dec.{T, eqb}

-- Equations of tests

pub nowhere : {A : Type 0} → false ≡ true → A
nowhere e = let z : ◌≡◌ {A = ℕ} 0 1 = ap (λ b. cond b 1 0) e in absurd (omega arith)

pub and_left : (a b : Bool) → a && b ≡ true → a ≡ true
and_left true b e = refl
and_left false b e = e

pub and_right : (a b : Bool) → a && b ≡ true → b ≡ true
and_right true b e = e
and_right false b e = nowhere e

pub and_true : {a b : Bool} → a ≡ true → b ≡ true → a && b ≡ true
and_true {a} {b} p q = rw (p, q)

-- the second part counts only where the first holds
pub and_cong : (a b d : Bool) → (a ≡ true → b ≡ d) → a && b ≡ a && d
and_cong true b d h = h refl
and_cong false b d h = refl

pub or_cases : (a b : Bool) → a || b ≡ true → (a ≡ true) ⊎ (b ≡ true)
or_cases true b e = inl refl
or_cases false b e = inr e

pub or_true_left : (a b : Bool) → a ≡ true → a || b ≡ true
or_true_left true b e = refl
or_true_left false b e = nowhere e

pub or_true_right : (a b : Bool) → b ≡ true → a || b ≡ true
or_true_right true b e = refl
or_true_right false b e = e

-- two tests are the same where each passes with the other
pub same_test : (a b : Bool) → (a ≡ true → b ≡ true) → (b ≡ true → a ≡ true) → a ≡ b
same_test true b f g = sym (f refl)
same_test false true f g = g refl
same_test false false f g = refl

pub not_passed : (a : Bool) → (a ≡ true → ⊥) → a ≡ false
not_passed true f = absurd (f refl)
not_passed false f = refl

-- what holds of both outcomes, each with its test
pub by_test : {A : Type 0} (b : Bool) → (b ≡ true → A) → (b ≡ false → A) → A
by_test true f h = f refl
by_test false f h = h refl

pub cond_same : {A : Type 0} (t : Bool) (x : A) → cond t x x ≡ x
cond_same true x = refl
cond_same false x = refl

-- a test of a negated flag, of whose value a callee told
pub off : {a b : Bool} → not a ≡ true → a ≡ b → b ≡ false
off {a} {b} n e = by a b n e
  where
    by : (a b : Bool) → not a ≡ true → a ≡ b → b ≡ false
    by true b n e = sym e ∙ sym n
    by false b n e = sym e

pub on : {a b : Bool} → not a ≡ false → a ≡ b → b ≡ true
on {a} {b} n e = by a b n e
  where
    by : (a b : Bool) → not a ≡ false → a ≡ b → b ≡ true
    by true b n e = sym e
    by false b n e = sym e ∙ sym n

-- two numbers tested for one value are equal where they are 0 or 1
pub same_eqb : (x y n : ℕ) → x ≡ y → eqb x n ≡ eqb y n
same_eqb x y n e = ap (λ k. eqb k n) e

-- Tests as types

pub cond_elim : {A : Type 0} (P : A → Type 0) (b : Bool) (x y : A) → (T b → P x) → (T (not b) → P y) → P (cond b x y)
cond_elim P true x y f h = f tt
cond_elim P false x y f h = h tt

pub both : (a b : Bool) → T (a && b) → T a × T b
both true b h = (tt, h)
both false b h = absurd h

pub and_intro : (a b : Bool) → T a → T b → T (a && b)
and_intro true b h k = k
and_intro false b h k = h

pub or_else : (a b : Bool) → T (a || b) → T (not a) → T b
or_else true b h k = absurd k
or_else false b h k = h

pub or_intro : (a b : Bool) → (T (not a) → T b) → T (a || b)
or_intro true b f = tt
or_intro false b f = f tt

pub or_elim : {P : Type 0} (a b : Bool) → T (a || b) → (T a → P) → (T b → P) → P
or_elim true b h f k = f tt
or_elim false b h f k = k h

pub or_left : (a b : Bool) → T a → T (a || b)
or_left true b h = tt
or_left false b h = absurd h

pub or_right : (a b : Bool) → T b → T (a || b)
or_right true b h = tt
or_right false b h = h

pub clash_not : (b : Bool) → T b → T (not b) → ⊥
clash_not true h k = k
clash_not false h k = h

pub true_T : {b : Bool} → b ≡ true → T b
true_T e = subst T (sym e) tt

pub T_true : (b : Bool) → T b → b ≡ true
T_true true h = refl
T_true false h = absurd h
