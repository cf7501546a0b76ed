-- Texts compared byte by byte. Assumes nothing.
use mathlib.Core.Path.{◌≡◌, refl, sym, ap, ap₂, ◌∙◌}
use mathlib.Core.Bool.{true, false}
use mathlib.Core.List.{List, [], ◌∷◌, ◌++◌}
use Prim.Native.Nat.{ℕ}
use borrow.Author.Tests.{eqb-true, eq-eqb}
use lib.Dec.{eqb}
use Rattle.words.proofs.Tests.{nowhere, and_left, and_right, and_true, not_passed}
use Rattle.text.specs.Text.{same}

pub same_eq : (a b : List ℕ) → same a b ≡ true → a ≡ b
unfolding same
same_eq [] [] e = refl
same_eq [] (y ∷ b) e = nowhere e
same_eq (x ∷ a) [] e = nowhere e
same_eq (x ∷ a) (y ∷ b) e = ap₂ (λ (z : ℕ) (l : List ℕ). z ∷ l) (eqb-true x y (and_left (eqb x y) _ e)) (same_eq a b (and_right (eqb x y) _ e))

same_self : (a : List ℕ) → same a a ≡ true
unfolding same
same_self [] = refl
same_self (x ∷ a) = and_true (eq-eqb x x refl) (same_self a)

pub same_of : (a b : List ℕ) → a ≡ b → same a b ≡ true
same_of a b e = ap (same a) (sym e) ∙ same_self a

pub not_same : (a b : List ℕ) → (a ≡ b → ⊥) → same a b ≡ false
not_same a b f = not_passed (same a b) (λ e. f (same_eq a b e))

-- what stands behind the same front
pub same_behind : (a r s : List ℕ) → same (a ++ r) (a ++ s) ≡ same r s
unfolding same
same_behind [] r s = refl
same_behind (x ∷ a) r s = rw (eq-eqb x x refl) (same_behind a r s)
