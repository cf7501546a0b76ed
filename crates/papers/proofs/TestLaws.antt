-- Tests that compute, as facts. Assumes nothing.
use mathlib.Core.Path.{◌≡◌, sym, subst, ◌∙◌}
use mathlib.Core.Bool.{Bool, true, not, ◌&&◌}
use mathlib.Core.Logic.{⊎_elim}
use mathlib.Core.List.{List, [], ◌∷◌}
use Prim.Native.Nat.{ℕ, zero, suc, ◌^◌, ◌<◌}
use native.Mathlib.Nat.{le_of_suc-le-suc, not-suc-le-zero}
use lib.Dec.{ltb, eqb}
use lib.ListN.{length, get_or}
use borrow.Author.Tests.{ltb-true, eqb-true, not-true}
use Rattle.words.proofs.Tests.{nowhere, and_left, and_right, or_cases, T_true}
use Rattle.diagram.specs.States.{Distinct, has}
use Rattle.diagram.proofs.ListLaws.{listed_has}
use Rattle.papers.specs.Rows.{columns_down, Columns}

-- Lists

-- every element passes the test
abbrev pub all : {A : Type 0} → (A → Bool) → List A → Bool
all p [] = true
all p (x ∷ l) = p x && all p l

pub all_at : {A : Type 0} (p : A → Bool) (l : List A) (d : A) → all p l ≡ true → (i : ℕ) → i < length l → p (get_or l i d) ≡ true
all_at p [] d h i k = absurd (not-suc-le-zero k)
all_at p (x ∷ l) d h zero k = and_left (p x) _ h
all_at p (x ∷ l) d h (suc i) k = all_at p l d (and_right (p x) _ h) i (le_of_suc-le-suc k)

pub all_has : (p : ℕ → Bool) (l : List ℕ) → all p l ≡ true → (x : ℕ) → has x l ≡ true → p x ≡ true
all_has p [] h x e = nowhere e
all_has p (y ∷ l) h x e =
    ⊎_elim (λ s. subst (λ (z : ℕ). p z ≡ true) (eqb-true y x s) (and_left (p y) _ h)) (all_has p l (and_right (p y) _ h) x)
    (or_cases (eqb y x) (has x l) e)

-- no number twice
abbrev pub apart : List ℕ → Bool
apart [] = true
apart (x ∷ l) = not (has x l) && apart l

pub apart_distinct : (l : List ℕ) → apart l ≡ true → Distinct l
apart_distinct [] h i j o k e = not-suc-le-zero k
apart_distinct (x ∷ l) h i zero o k e = not-suc-le-zero o
apart_distinct (x ∷ l) h zero (suc j) o k e =
    nowhere (sym (not-true (has x l) (and_left (not (has x l)) _ h)) ∙ T_true (has x l) (listed_has x l j (le_of_suc-le-suc k) (sym e)))
apart_distinct (x ∷ l) h (suc i) (suc j) o k e =
    apart_distinct l (and_right (not (has x l)) _ h) i j (le_of_suc-le-suc o) (le_of_suc-le-suc k) e

-- Columns

-- a word that is computed, by its columns
pub columns_tested : (w v : ℕ) (columns : List ℕ) → w ≡ v → columns_down (length columns) v ≡ columns → ltb v (2 ^ length columns) ≡ true → Columns w columns
columns_tested w v columns e bits fits =
    subst (λ (x : ℕ). Columns x columns) (sym e) (record { bits = bits; fits = ltb-true v (2 ^ length columns) fits })

-- What holds of each element

infixr 60 ◌then◌
pub data Every {A : Type 0} (P : A → Type 0) : List A → Type 0 where
  end : Every P []
  ◌then◌ : {x : A} {l : List A} → P x → Every P l → Every P (x ∷ l)

pub every_at : {A : Type 0} {P : A → Type 0} {l : List A} → Every P l → (d : A) (i : ℕ) → i < length l → P (get_or l i d)
every_at end d i k = absurd (not-suc-le-zero k)
every_at (h then r) d zero k = h
every_at (h then r) d (suc i) k = every_at r d i (le_of_suc-le-suc k)
