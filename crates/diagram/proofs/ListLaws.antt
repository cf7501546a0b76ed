-- Lists of numbers: what is listed, a list that begins with another, a number added unless it is there. Assumes nothing.
use mathlib.Core.Path.{◌≡◌, refl, sym, ◌∙◌}
use mathlib.Core.List.{List, [], ◌∷◌, ◌++◌}
use Prim.Native.Nat.{ℕ, zero, suc, ◌≤◌, ◌<◌, suc-le-suc}
use native.Mathlib.Nat.{le_refl, le_trans, le_of_suc-le-suc, not-suc-le-zero, lt_of_lt_of_le, zero-lt-suc}
use native.Mathlib.Decide.{dec_lt}
use native.Mathlib.Omega.{arith}
use lib.Dec.{T, eqb, eqb→eq, eqb_refl}
use lib.ListN.{length, get_or, length-append, get_or-append}
use lib.Seq.{get_or-append_seam, get_or_at}
use Rattle.words.proofs.Tests.{cond_elim, or_elim, or_left, or_right, clash_not}
use Rattle.diagram.specs.States.{Listed, Each, Distinct, has, add}

-- What is listed

pub has_listed : (x : ℕ) (l : List ℕ) → T (has x l) → Listed x l
has_listed x [] h = absurd h
has_listed x (y ∷ l) h =
    or_elim (eqb y x) (has x l) h (λ e. record { index = 0; inside = zero-lt-suc (length l); found = eqb→eq y x e })
    (λ e. deeper (has_listed x l e))
  where
    deeper : Listed x l → Listed x (y ∷ l)
    deeper r = record { index = suc r.index; inside = suc-le-suc r.inside; found = r.found }

pub listed_has : (x : ℕ) (l : List ℕ) (i : ℕ) → i < length l → get_or l i 0 ≡ x → T (has x l)
listed_has x [] i h e = not-suc-le-zero h
listed_has x (y ∷ l) zero h e = or_left (eqb y x) (has x l) (rw e (eqb_refl x))
listed_has x (y ∷ l) (suc i) h e = or_right (eqb y x) (has x l) (listed_has x l i (le_of_suc-le-suc h) e)

-- A list that begins with another

-- m begins with l
pub record Extends (l m : List ℕ) : Type 0 where
  pub longer : length l ≤ length m
  pub same : (i : ℕ) → i < length l → get_or m i 0 ≡ get_or l i 0

pub extends_refl : (l : List ℕ) → Extends l l
extends_refl l = record { longer = le_refl (length l); same = λ i h. refl }

pub extends_trans : {l m r : List ℕ} → Extends l m → Extends m r → Extends l r
extends_trans p q = record {
  longer = le_trans p.longer q.longer;
  same = λ i h. q.same i (lt_of_lt_of_le h p.longer) ∙ p.same i h;
}

pub keep : {x : ℕ} {l m : List ℕ} → Extends l m → Listed x l → Listed x m
keep p r = record {
  index = r.index;
  inside = lt_of_lt_of_le r.inside p.longer;
  found = p.same r.index r.inside ∙ r.found;
}

append_extends : (l : List ℕ) (x : ℕ) → Extends l (l ++ (x ∷ []))
append_extends l x = record { longer = rw length-append (omega arith); same = λ i h. get_or-append l (x ∷ []) 0 i h }

-- A number at the end

pub append_each : (P : ℕ → Type 0) (l : List ℕ) (x : ℕ) → Each P l → P x → Each P (l ++ (x ∷ []))
append_each P [] x f p zero h = p
append_each P [] x f p (suc i) h = absurd (not-suc-le-zero (le_of_suc-le-suc h))
append_each P (y ∷ l) x f p zero h = f 0 (zero-lt-suc (length l))
append_each P (y ∷ l) x f p (suc i) h = append_each P l x (λ j k. f (suc j) (suc-le-suc k)) p i (le_of_suc-le-suc h)

append_distinct : (l : List ℕ) (x : ℕ) → Distinct l → ((i : ℕ) → i < length l → get_or l i 0 ≡ x → ⊥) → Distinct (l ++ (x ∷ []))
append_distinct l x d f i j h k e = pick (dec_lt j (length l))
  where
    pick : Dec (j < length l) → ⊥
    pick (yes m) = d i j h m (sym (get_or-append l (x ∷ []) 0 i (omega arith)) ∙ e ∙ get_or-append l (x ∷ []) 0 j m)
    pick (no m) =
        let last : length l ≡ j = omega (arith, length-append l (x ∷ [])) in
        f i (omega arith) (sym (get_or-append l (x ∷ []) 0 i (omega arith)) ∙ e ∙ get_or_at l x [] 0 j last)

pub one_distinct : (x : ℕ) → Distinct (x ∷ [])
one_distinct x i j h k e = omega arith

-- A number added unless it is there

pub add_extends : (x : ℕ) (l : List ℕ) → Extends l (add x l)
add_extends x l = cond_elim (Extends l) (has x l) l (l ++ (x ∷ [])) (λ b. extends_refl l) (λ b. append_extends l x)

pub add_listed : (x : ℕ) (l : List ℕ) → Listed x (add x l)
add_listed x l =
    cond_elim (Listed x) (has x l) l (l ++ (x ∷ [])) (has_listed x l)
    (λ b. record { index = length l; inside = rw length-append (omega arith); found = get_or-append_seam l x [] 0 })

pub add_each : (P : ℕ → Type 0) (x : ℕ) (l : List ℕ) → Each P l → P x → Each P (add x l)
add_each P x l f p = cond_elim (Each P) (has x l) l (l ++ (x ∷ [])) (λ b. f) (λ b. append_each P l x f p)

pub add_distinct : (x : ℕ) (l : List ℕ) → Distinct l → Distinct (add x l)
add_distinct x l d =
    cond_elim Distinct (has x l) l (l ++ (x ∷ [])) (λ b. d)
    (λ b. append_distinct l x d (λ i h e. clash_not (has x l) (listed_has x l i h e) b))
